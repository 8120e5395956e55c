-- The shares of an hour: the one rule over the rows is the kinds served in turn, and what it comes to after a clearing.
use Rattle.std.proofs.Common.{◌≡◌, ℕ, ◌+◌, ◌-◌, ◌<◌, max, List, map, length, get_or, None, sum_by, Option, sym, refl, ap, ◌∙◌, arith}
use Rattle.std.specs.List.{range_with_len}
use Rattle.std.proofs.lemmas.List.{length-map, get_or-map}
use Rattle.allocation.specs.declared.block.BlockClaim.{BlockClaim}
use Rattle.allocation.specs.declared.market.MarketClaim.{MarketClaim}
use Rattle.allocation.specs.declared.limit.LimitClaim.{LimitClaim}
use Rattle.allocation.specs.Rankings.{RankLaws}
use Rattle.allocation.specs.Shares.{share_of, shares_of}
use Rattle.allocation.specs.Kinds.{SharedKind}
use Rattle.allocation.specs.Layers.{by_key, by_stamp, by_place}
use Rattle.allocation.proofs.Joining.{by_kind}
use Rattle.allocation.proofs.Sharing.{shared}
use Rattle.curves.specs.declared.sides.Side.{Side}
use Rattle.book.specs.Bids.{Place, vacant}
use Rattle.book.specs.Places.{place_at}
use Rattle.clearing.specs.declared.marks.Mark.{Mark}
use Rattle.clearing.specs.declared.marks.Mark.TheVariants.{Kept}
use Rattle.clearing.specs.Blocks.{blocks_of}
use Rattle.clearing.specs.Clearing.{tabled}
use Rattle.clearing.specs.Claims.{HourClaim, place_kind, block_kind, market_kind, limit_kind, row_kind, is_kept, block_claim, market_of, limit_of, row_claim, row_claims}
use Rattle.clearing.specs.Sharing.{both_sides, largest, largest_of, served_in_turn, side_shares}
use Rattle.clearing.proofs.Tabled.{tabled_at, tabled_length, tabled_by, map_by_place, map_twice}
use Rattle.clearing.proofs.Joined.{first_of, second_of, third_of, first_out, second_out, third_out, row_share}
use Rattle.clearing.proofs.Rowed.{one_claim}
use Rattle.clearing.proofs.Cleared.{blocks_at}

-- the rankings keep their laws
pub row_laws : RankLaws row_kind.stamp row_kind.before
row_laws =
    by_place (by_kind (by_key (λ (c : BlockClaim). c.hours) (by_key (λ c. c.volume) (by_stamp (λ c. c.stamp))))
    (by_kind (by_key (λ (c : MarketClaim). c.volume) (by_stamp (λ c. c.stamp))) (by_key (λ (c : LimitClaim). c.area) (by_key (λ c. c.volume) (by_stamp (λ c. c.stamp))))))

pub joined_same : {xs xs' ys ys' zs zs' : List ℕ} → xs ≡ xs' → ys ≡ ys' → zs ≡ zs' → (n : ℕ) → tabled (largest_of xs ys zs) n ≡ tabled (largest_of xs' ys' zs') n
joined_same {xs} {xs'} {ys} {ys'} {zs} {zs'} p q r n =
    ap (λ l. tabled (largest_of l ys zs) n) p ∙ ap (λ l. tabled (largest_of xs' l zs) n) q ∙ ap (λ l. tabled (largest_of xs' ys' l) n) r

pub map_tabled : {A B : Type 0} (f : A → B) (g : ℕ → A) (n : ℕ) → map f (tabled g n) ≡ tabled (λ k. f (g k)) n
unfolding tabled
map_tabled f g n = sym (map_twice f g (range_with_len 0 n))

tabled_same : {A : Type 0} (f g : ℕ → A) (n : ℕ) (d : A) → ((k : ℕ) → k < n → f k ≡ g k) → tabled f n ≡ tabled g n
tabled_same f g n d same = tabled_by g (tabled f n) n d (tabled_length f n) (λ k l. tabled_at f n k d l ∙ same k l)

-- the larger of two tables, taken twice
pub joined : (xs ys zs : List ℕ) (n : ℕ) → both_sides xs (both_sides ys zs n) n ≡ tabled (largest_of xs ys zs) n
joined xs ys zs n = tabled_same _ _ n 0 (λ k l. ap (max (get_or xs k 0)) (tabled_at (λ j. max (get_or ys j 0) (get_or zs j 0)) n k 0 l))

module _ (ps : List Place) (sets : List ℕ) (ms : List Mark) (h t : ℕ) (side : Side) (within : h < 24) where
  abbrev cs : List (Option HourClaim)
  cs = row_claims ps sets ms h t side

  abbrev n : ℕ
  n = length ps

  long : length cs ≡ n
  long = tabled_length (row_claim ps sets ms h t side) n

  at : (k : ℕ) → k < n → get_or cs k None ≡ row_claim ps sets ms h t side k
  at k l = tabled_at (row_claim ps sets ms h t side) n k None l

  pub first_is : tabled (λ k. block_claim (is_kept (get_or ms k Kept)) side h (get_or (blocks_of sets ps) k None)) n ≡ map first_of cs
  first_is =
      tabled_same _ (λ k. first_of (row_claim ps sets ms h t side k)) n None (λ k l. ap (block_claim (is_kept (get_or ms k Kept)) side h) (blocks_at sets ps k l) ∙ sym (first_out _ (market_of (h + 1) side (place_at ps k)) (limit_of (h + 1) side t (place_at ps k))))
      ∙ sym (map_tabled first_of (row_claim ps sets ms h t side) n)

  pub second_is : map (market_of (h + 1) side) ps ≡ map second_of cs
  second_is =
      map_by_place (market_of (h + 1) side) vacant None ps
      ∙ tabled_same _ (λ k. second_of (row_claim ps sets ms h t side k)) n None (λ k l. sym (second_out _ _ _ (one_claim sets (is_kept (get_or ms k Kept)) side h t (place_at ps k) within)))
      ∙ sym (map_tabled second_of (row_claim ps sets ms h t side) n)

  pub third_is : map (limit_of (h + 1) side t) ps ≡ map third_of cs
  third_is =
      map_by_place (limit_of (h + 1) side t) vacant None ps
      ∙ tabled_same _ (λ k. third_of (row_claim ps sets ms h t side k)) n None (λ k l. sym (third_out _ _ _ (one_claim sets (is_kept (get_or ms k Kept)) side h t (place_at ps k) within)))
      ∙ sym (map_tabled third_of (row_claim ps sets ms h t side) n)

  -- the share of a row's claim of a kind, read from the table of that kind
  kind_at : {A : Type 0} (part : Option HourClaim → Option A) (share : Option A → ℕ) (k : ℕ) → k < n → get_or (map share (map part cs)) k 0 ≡ share (part (row_claim ps sets ms h t side k))
  kind_at part share k l =
      get_or-map share (map part cs) k None 0 (omega (arith, length-map cs part, long)) ∙ ap share (get_or-map part cs k None None (omega (arith, long)) ∙ ap part (at k l))

  module _ (volume : ℕ) where
    pub share_at : (k : ℕ) → k < n → get_or (side_shares ps sets ms h t side volume) k 0 ≡ share_of row_kind.asks row_kind.before volume cs (row_claim ps sets ms h t side k)
    unfolding side_shares shares_of
    share_at k l = get_or-map (share_of row_kind.asks row_kind.before volume cs) cs k None 0 (omega (arith, long)) ∙ ap (share_of row_kind.asks row_kind.before volume cs) (at k l)

    -- the kinds served in turn give each row its share by the one rule
    pub turn_is_rule : served_in_turn volume (map first_of cs) (map second_of cs) (map third_of cs) n ≡ side_shares ps sets ms h t side volume
    unfolding side_shares shares_of
    turn_is_rule =
        let sa = sum_by (place_kind block_kind).asks (map first_of cs) in
        let sb = sum_by (place_kind market_kind).asks (map second_of cs) in
        let f : Option BlockClaim → ℕ = share_of (place_kind block_kind).asks (place_kind block_kind).before volume (map first_of cs) in
        let g : Option MarketClaim → ℕ = share_of (place_kind market_kind).asks (place_kind market_kind).before (volume - sa) (map second_of cs) in
        let w : Option LimitClaim → ℕ = share_of (place_kind limit_kind).asks (place_kind limit_kind).before (volume - sa - sb) (map third_of cs) in
        let one : Option HourClaim → ℕ = share_of row_kind.asks row_kind.before volume cs in
        tabled_same (largest_of (map f (map first_of cs)) (map g (map second_of cs)) (map w (map third_of cs))) (λ k. one (row_claim ps sets ms h t side k)) n 0
        (λ k l. let row = row_claim ps sets ms h t side k in
        ap (λ x. largest x (get_or (map g (map second_of cs)) k 0) (get_or (map w (map third_of cs)) k 0)) (kind_at first_of f k l)
        ∙ ap (λ x. largest (f (first_of row)) x (get_or (map w (map third_of cs)) k 0)) (kind_at second_of g k l)
        ∙ ap (λ x. largest (f (first_of row)) (g (second_of row)) x) (kind_at third_of w k l)
        ∙ sym (row_share block_kind market_kind limit_kind volume cs row))
        ∙ sym (map_tabled one (row_claim ps sets ms h t side) n)

    pub ruled : SharedKind row_kind volume cs (side_shares ps sets ms h t side volume)
    unfolding side_shares
    ruled = shared row_kind.asks row_kind.stamp row_kind.before row_laws volume cs _ refl
