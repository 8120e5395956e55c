-- The claims of the rows: one to a row at most, what they ask for together, and their stamps.
use Rattle.std.proofs.Common.{◌≡◌, ℕ, zero, suc, ◌+◌, ◌<◌, ◌≤◌, Bool, true, false, cond, ◌&&◌, ltb, List, [], ◌∷◌, map, length, get_or, is_some, Some, None, sum_by, Option, sym, refl, ap, ◌∙◌, arith}
use Rattle.std.specs.List.{range_with_len}
use Rattle.std.proofs.lemmas.List.Sums.{sum_by-cons}
use Rattle.std.proofs.lemmas.List.FromFn.{sum_by-map-range_with_len_more}
use Rattle.std.proofs.lemmas.Bool.{ne_eqb, ltb-true}
use Rattle.std.proofs.lemmas.List.{take_all}
use Rattle.allocation.specs.declared.market.MarketClaim.{MarketClaim}
use Rattle.allocation.specs.declared.limit.LimitClaim.{LimitClaim}
use Rattle.curves.specs.declared.sides.Side.{Side}
use Rattle.curves.specs.Offers.{Form, flat, stairs, slopes, form_shows, offer_shows}
use Rattle.book.specs.Bids.{Bid, Place, vacant, held}
use Rattle.book.specs.Places.{place_at}
use Rattle.book.specs.Shown.{same_side, place_shows, book_shows}
use Rattle.clearing.specs.declared.blocks.Block.{Block}
use Rattle.clearing.specs.declared.marks.Mark.{Mark}
use Rattle.clearing.specs.declared.marks.Mark.TheVariants.{Kept}
use Rattle.clearing.specs.Upto.{upto}
use Rattle.clearing.specs.Hours.{in_hour}
use Rattle.clearing.specs.Verdicts.{claim_of, adds_of, adds, load_of}
use Rattle.clearing.specs.Blocks.{block_in, block_of, blocks_of}
use Rattle.clearing.specs.Clearing.{tabled}
use Rattle.clearing.specs.Claims.{place_kind, block_kind, market_kind, limit_kind, row_kind, is_kept, block_claim, market_bid, limit_bid, bids_in, market_of, limit_of, row_claim, row_claims}
use Rattle.clearing.proofs.Uptos.{upto_same, sum_upto}
use Rattle.clearing.proofs.Joined.{AtMostOne, asks_out}
use Rattle.clearing.proofs.Cleared.{blocks_at, blocks_length}

-- one claim at most

one_block : (f : Bool) (s : Side) (h : ℕ) (o : Option Block) → cond (is_some (block_claim f s h o)) 1 0 ≤ 1
one_block f s h None = omega arith
one_block f s h (Some b) = test (f && (same_side s b.side && in_hour b.hours h))
  where
    test : (q : Bool) → cond (is_some (cond q (Some (claim_of b)) None)) 1 0 ≤ 1
    test true = omega arith
    test false = omega arith

one_form : (q : Bool) (b : Bid) (t : ℕ) (f : Form) → cond (is_some (cond q (market_bid b f) None)) 1 0 + cond (is_some (cond q (limit_bid b t f) None)) 1 0 ≤ 1
one_form false b t f = omega arith
one_form true b t (flat v) = omega arith
one_form true b t (stairs ps) = omega arith
one_form true b t (slopes ps) = omega arith

one_held : (q : Bool) (f : Bool) (s : Side) (h t : ℕ) (b : Bid) (o : Option Block) → ltb 24 b.product ≡ q → h < 24 → AtMostOne (block_claim f s h (cond q o None)) (market_of (h + 1) s (held b)) (limit_of (h + 1) s t (held b))
one_held false f s h t b o e l = omega (arith, one_form (bids_in (h + 1) s b) b t b.offer.form)
one_held true f s h t b o e l =
    let big : 24 < b.product = ltb-true 24 b.product e in
    let off : bids_in (h + 1) s b ≡ false = ap (λ q. q && same_side b.offer.side s) (ne_eqb b.product (h + 1) (λ e. absurd (omega arith))) in
    let m : market_of (h + 1) s (held b) ≡ None = ap (λ q. cond q (market_bid b b.offer.form) None) off in
    let n : limit_of (h + 1) s t (held b) ≡ None = ap (λ q. cond q (limit_bid b t b.offer.form) None) off in
    omega (arith, one_block f s h o, ap {B = ℕ} (λ (x : Option MarketClaim). cond (is_some x) 1 0) m, ap {B = ℕ} (λ (x : Option LimitClaim). cond (is_some x) 1 0) n)

pub one_claim : (sets : List ℕ) (f : Bool) (s : Side) (h t : ℕ) (p : Place) → h < 24 → AtMostOne (block_claim f s h (block_of sets p)) (market_of (h + 1) s p) (limit_of (h + 1) s t p)
one_claim sets f s h t vacant l = omega arith
one_claim sets f s h t (held b) l = one_held (ltb 24 b.product) f s h t b (block_in b _) refl l

-- what a row asks for: its block's volume where that stands, and what its order shows

block_asks : (f : Bool) (s : Side) (h : ℕ) (o : Option Block) → (place_kind block_kind).asks (block_claim f s h o) ≡ adds_of f s h o
block_asks f s h None = refl
block_asks f s h (Some b) = test (f && (same_side s b.side && in_hour b.hours h))
  where
    test : (q : Bool) → (place_kind block_kind).asks (cond q (Some (claim_of b)) None) ≡ cond q b.volume 0
    test true = refl
    test false = refl

asks_form : (q : Bool) (b : Bid) (f : Form) (t : ℕ) → b.offer.form ≡ f → (place_kind market_kind).asks (cond q (market_bid b f) None) + (place_kind limit_kind).asks (cond q (limit_bid b t f) None) ≡ cond q (offer_shows b.offer t) 0
asks_form true b (flat v) t e = omega (arith, ap (λ f. form_shows b.offer.side f t) e)
asks_form true b (stairs ps) t e = omega arith
asks_form true b (slopes ps) t e = omega arith
asks_form false b f t e = omega arith

place_asks : (hour : ℕ) (side : Side) (t : ℕ) (p : Place) → (place_kind market_kind).asks (market_of hour side p) + (place_kind limit_kind).asks (limit_of hour side t p) ≡ place_shows hour side p t
place_asks hour side t vacant = omega arith
place_asks hour side t (held b) = asks_form (bids_in hour side b) b b.offer.form t refl

-- sums below n

upto_both : (f g : ℕ → ℕ) (n : ℕ) → upto (λ k. f k + g k) n ≡ upto f n + upto g n
unfolding upto
upto_both f g zero = refl
upto_both f g (suc n) = omega (arith, upto_both f g n)

pub sum_tabled : {A : Type 0} (f : A → ℕ) (g : ℕ → A) (n : ℕ) → sum_by f (tabled g n) ≡ upto (λ k. f (g k)) n
unfolding tabled upto
sum_tabled f g zero = refl
sum_tabled f g (suc n) =
    let one : n + 1 ≡ suc n = omega arith in
    ap (λ m. sum_by f (map g (range_with_len 0 m))) (sym one) ∙ omega (arith, sum_by-map-range_with_len_more f g 0 n n (omega arith), sum_tabled f g n)

book_sum : (hour : ℕ) (side : Side) (ps : List Place) (t : ℕ) → book_shows hour side ps t ≡ sum_by (λ p. place_shows hour side p t) ps
unfolding book_shows
book_sum hour side [] t = refl
book_sum hour side (p ∷ ps) t = omega (arith, sum_by-cons (λ p. place_shows hour side p t) p ps, book_sum hour side ps t)

book_upto : (hour : ℕ) (side : Side) (ps : List Place) (t : ℕ) → upto (λ k. place_shows hour side (place_at ps k) t) (length ps) ≡ book_shows hour side ps t
book_upto hour side ps t = sum_upto (λ p. place_shows hour side p t) vacant ps (length ps) (omega arith) ∙ ap (sum_by (λ p. place_shows hour side p t)) (take_all (length ps) ps (omega arith)) ∙ sym (book_sum hour side ps t)

-- the marks say which blocks stand
module _ (ps : List Place) (sets : List ℕ) (ms : List Mark) (fs : List Bool) (h t : ℕ) (side : Side) (within : h < 24) (standing : (k : ℕ) → k < length ps → is_kept (get_or ms k Kept) ≡ get_or fs k false) where
  block_adds : (k : ℕ) → k < length ps → (place_kind block_kind).asks (block_claim (is_kept (get_or ms k Kept)) side h (block_of sets (place_at ps k))) ≡ adds (blocks_of sets ps) fs side h k
  block_adds k l =
      block_asks (is_kept (get_or ms k Kept)) side h (block_of sets (place_at ps k))
      ∙ ap (λ f. adds_of f side h (block_of sets (place_at ps k))) (standing k l) ∙ ap (adds_of (get_or fs k false) side h) (sym (blocks_at sets ps k l))

  pub load_asked : upto (λ k. (place_kind block_kind).asks (block_claim (is_kept (get_or ms k Kept)) side h (block_of sets (place_at ps k)))) (length ps) ≡ load_of (blocks_of sets ps) fs side h
  load_asked = upto_same _ (adds (blocks_of sets ps) fs side h) (length ps) block_adds ∙ ap (upto (adds (blocks_of sets ps) fs side h)) (sym (blocks_length sets ps))

  pub all_asked : sum_by row_kind.asks (row_claims ps sets ms h t side) ≡ load_of (blocks_of sets ps) fs side h + book_shows (h + 1) side ps t
  all_asked =
      let f : ℕ → ℕ = adds (blocks_of sets ps) fs side h in
      let g : ℕ → ℕ = λ k. place_shows (h + 1) side (place_at ps k) t in
      let each : (k : ℕ) → k < length ps → row_kind.asks (row_claim ps sets ms h t side k) ≡ f k + g k = λ k l.
      asks_out block_kind market_kind limit_kind _ _ _ (one_claim sets (is_kept (get_or ms k Kept)) side h t (place_at ps k) within)
      ∙ omega (arith, block_adds k l, place_asks (h + 1) side t (place_at ps k)) in
      sum_tabled row_kind.asks (row_claim ps sets ms h t side) (length ps) ∙ upto_same _ (λ k. f k + g k) (length ps) each ∙ upto_both f g (length ps)
      ∙ omega (arith, ap (upto f) (blocks_length sets ps), book_upto (h + 1) side ps t)
