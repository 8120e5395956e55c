use Rattle.std.proofs.Common.{◌+◌, get_or, None}
use Rattle.book.specs.Views.{place_of}
use Rattle.clearing.specs.Claims.{market_of}
use Rattle.clearing.proofs.Tabled.{Filled}
use Rattle.clearing.proofs.sharing.Tables.market_claims.Given as goal

abbrev pub invariant-loop-i : goal.invariant-loop-i
invariant-loop-i l = Filled 256 (λ k. market_of (l.self.hour.index + 1) l.side (place_of (get_or l.self.rows.now k None))) l.claims l.i
