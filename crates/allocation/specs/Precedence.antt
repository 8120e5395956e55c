-- Which of two claims of a kind goes before the other.
use Rattle.std.specs.Prelude.{Bool, nat_lt}
use Rattle.allocation.specs.Rankings.{larger_first}
use Rattle.allocation.specs.declared.market.MarketClaim.{MarketClaim}
use Rattle.allocation.specs.declared.limit.LimitClaim.{LimitClaim}
use Rattle.allocation.specs.declared.block.BlockClaim.{BlockClaim}

-- larger volume, then lower stamp
abbrev pub market_before : MarketClaim → MarketClaim → Bool
market_before a b = larger_first a.volume b.volume (nat_lt a.stamp b.stamp)

-- larger area, then larger volume, then lower stamp
abbrev pub limit_before : LimitClaim → LimitClaim → Bool
limit_before a b = larger_first a.area b.area (larger_first a.volume b.volume (nat_lt a.stamp b.stamp))

-- more hours, then larger volume, then lower stamp
abbrev pub block_before : BlockClaim → BlockClaim → Bool
block_before a b = larger_first a.hours b.hours (larger_first a.volume b.volume (nat_lt a.stamp b.stamp))
