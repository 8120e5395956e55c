-- After a clearing: the shares of an hour add up, standing blocks are whole, and a row has a share on its own side alone.
use Rattle.std.proofs.Common.{◌≡◌, ℕ, ◌+◌, ◌-◌, ◌<◌, ◌≤◌, min, max, Bool, true, false, cond, ◌&&◌, eqb, ltb, List, map, length, get_or, Some, None, sum_by, sum, Option, sym, refl, ap, ◌∙◌, subst, inl, inr, arith}
use Rattle.std.specs.List.{ContainsAt as Has}
use Rattle.std.proofs.lemmas.List.{length-map, get_or-map}
use Rattle.std.proofs.ByRecursion.{has_get_or}
use Rattle.std.proofs.lemmas.Bool.{cases_lt, lt-ltb, le-ltb, lt-leb, ltb-false, and_from}
use Rattle.allocation.specs.declared.block.BlockClaim.{BlockClaim}
use Rattle.allocation.specs.declared.market.MarketClaim.{MarketClaim}
use Rattle.allocation.specs.declared.limit.LimitClaim.{LimitClaim}
use Rattle.allocation.specs.Shares.{share_of, Distinct}
use Rattle.allocation.proofs.Sharing.{all_served}
use Rattle.curves.specs.declared.sides.Side.{Side}
use Rattle.curves.specs.declared.sides.Side.TheVariants.{Buy, Sell}
use Rattle.curves.specs.Offers.{Form, flat, stairs, slopes}
use Rattle.book.specs.declared.entries.Entry.{Entry}
use Rattle.book.specs.Bids.{Bid, Place, vacant, held}
use Rattle.book.specs.Places.{place_at}
use Rattle.book.specs.Shown.{same_side, book_shows}
use Rattle.book.specs.Views.{places}
use Rattle.book.specs.Booked.{book_few}
use Rattle.clearing.specs.declared.blocks.Block.{Block}
use Rattle.clearing.specs.declared.marks.Cause.{Cause}
use Rattle.clearing.specs.declared.marks.Mark.{Mark}
use Rattle.clearing.specs.declared.marks.Mark.TheVariants.{Kept, Dropped}
use Rattle.clearing.specs.declared.results.HourResult.{HourResult}
use Rattle.clearing.specs.Results.{no_result, result_at}
use Rattle.clearing.specs.Hours.{day_hours, in_hour}
use Rattle.clearing.specs.Verdicts.{claim_of, cause_of, verdict_of, loss, short, short_in, load_of}
use Rattle.clearing.specs.Rounds.{Outcome, round_verdict, rounds_of, blocks_before, stood_in, Settled}
use Rattle.clearing.specs.Blocks.{block_terms, block_with, block_in, block_of, blocks_of}
use Rattle.clearing.specs.Clearing.{surplus_side, bought, sold, result_of, results_of, clearing_of}
use Rattle.clearing.specs.Fixing.{Stamped}
use Rattle.clearing.specs.Claims.{HourClaim, place_kind, block_kind, market_kind, limit_kind, row_kind, is_kept, block_claim, market_bid, limit_bid, bids_in, market_of, limit_of, claim_out, row_claim, row_claims}
use Rattle.clearing.specs.Sharing.{shared_out, shares_on, hour_shares, FromClearing, HourShared}
use Rattle.clearing.proofs.Uptos.{any_from, upto_same}
use Rattle.clearing.proofs.Settling.{ranking, blocks_settled, get_d_stood}
use Rattle.clearing.proofs.Tabled.{tabled_at, tabled_length}
use Rattle.clearing.proofs.Collected.{blocks_small}
use Rattle.clearing.proofs.Plain.{load_few}
use Rattle.clearing.proofs.Cleared.{block_stamp, blocks_at, blocks_length, places_length}
use Rattle.clearing.proofs.Joined.{first_of, first_out, row_share}
use Rattle.clearing.proofs.Rowed.{all_asked, load_asked, sum_tabled}
use Rattle.clearing.proofs.Shares.{map_tabled, share_at, ruled}

-- the marks say which blocks stand

mark_kept : (r : ℕ) (m : Mark) → ((q : ℕ) (c : Cause) → m ≡ Dropped q c → q < r) → is_kept m ≡ stood_in r m
mark_kept r Kept early = refl
mark_kept r (Dropped q c) early = sym (lt-leb r q (early q c refl))

-- what a clearing says of an hour
pub record Cleared (ps : List Place) (sets : List ℕ) (ms : List Mark) (h : ℕ) (r : HourResult) (refs : List ℕ) (fs : List Bool) : Type 0 where
  pub standing : (k : ℕ) → k < length ps → is_kept (get_or ms k Kept) ≡ get_or fs k false
  pub result_is : r ≡ result_of ps (blocks_of sets ps) refs fs h
  pub fails_not : (k : ℕ) → k < length ps → round_verdict (blocks_of sets ps) (results_of ps (blocks_of sets ps) refs) fs k ≡ None

pub cleared : (ps : List Place) (sets : List ℕ) (ms : List Mark) (h : ℕ) (r : HourResult) (filled : ℕ) → h < 24 → (f : FromClearing ps sets ms h r filled) → Cleared ps sets ms h r f.refs (rounds_of (blocks_of sets ps) (results_of ps (blocks_of sets ps) f.refs)).standing
unfolding clearing_of
cleared ps sets ms h r filled within f =
    let bs = blocks_of sets ps in
    let refs = f.refs in
    let o : Outcome = rounds_of bs (results_of ps bs refs) in
    let fs = o.standing in
    let s : Settled (length bs) (round_verdict bs (results_of ps bs refs)) (blocks_before bs) fs o.marks o.rounds = blocks_settled bs (results_of ps bs refs) in
    let same = blocks_length sets ps in
    record {
      standing = λ k l.
          ap (λ m. is_kept (get_or m k Kept)) f.marks_are
          ∙ mark_kept o.rounds (get_or o.marks k Kept) (λ q c e. (s.failed k q c (omega (arith, same)) e).1)
          ∙ sym (get_d_stood o.rounds o.marks k (omega (arith, same, s.long)))
          ∙ ap (λ x. get_or x k false) (sym s.last);
      result_is = f.result_is ∙ tabled_at (result_of ps bs refs fs) day_hours h no_result within;
      fails_not = λ k l. ap (λ x. round_verdict bs (results_of ps bs refs) x k) s.last ∙ s.done k (omega (arith, same));
    }

-- stamps

stamp_out : (m : ℕ) (x : Option BlockClaim) (y : Option MarketClaim) (z : Option LimitClaim) → ((a : BlockClaim) → x ≡ Some a → a.stamp ≡ m) → ((a : MarketClaim) → y ≡ Some a → a.stamp ≡ m) → ((a : LimitClaim) → z ≡ Some a → a.stamp ≡ m) → 0 < row_kind.asks (claim_out x y z) → row_kind.stamp (claim_out x y z) ≡ m
stamp_out m (Some a) y z p q r some = p a refl
stamp_out m None (Some a) z p q r some = q a refl
stamp_out m None None (Some a) p q r some = r a refl
stamp_out m None None None p q r some = absurd (omega arith)

block_claim_stamp : (f : Bool) (s : Side) (h : ℕ) (o : Option Block) (m : ℕ) → ((k : Block) → o ≡ Some k → k.stamp ≡ m) → (a : BlockClaim) → block_claim f s h o ≡ Some a → a.stamp ≡ m
block_claim_stamp f s h None m p a e = absurd (cc)
block_claim_stamp f s h (Some b) m p a e = test (f && (same_side s b.side && in_hour b.hours h)) e
  where
    test : (q : Bool) → cond q (Some (claim_of b)) None ≡ Some a → a.stamp ≡ m
    test true e = let same : claim_of b ≡ a = cc in sym (ap (λ (c : BlockClaim). c.stamp) same) ∙ p b refl
    test false e = absurd (cc)

market_stamp : (q : Bool) (b : Bid) (f : Form) (a : MarketClaim) → cond q (market_bid b f) None ≡ Some a → a.stamp ≡ b.stamp
market_stamp true b (flat v) a e = let same : record { volume = v; stamp = b.stamp } ≡ a = cc in sym (ap (λ (c : MarketClaim). c.stamp) same)
market_stamp true b (stairs ps) a e = absurd (cc)
market_stamp true b (slopes ps) a e = absurd (cc)
market_stamp false b f a e = absurd (cc)

limit_stamp : (q : Bool) (b : Bid) (t : ℕ) (f : Form) (a : LimitClaim) → cond q (limit_bid b t f) None ≡ Some a → a.stamp ≡ b.stamp
limit_stamp true b t (flat v) a e = absurd (cc)
limit_stamp true b t (stairs ps) a e = sym (ap (λ (o : Option LimitClaim). elim o [ None ↦ 0 | Some c ↦ c.stamp ]) e)
limit_stamp true b t (slopes ps) a e = sym (ap (λ (o : Option LimitClaim). elim o [ None ↦ 0 | Some c ↦ c.stamp ]) e)
limit_stamp false b t f a e = absurd (cc)

claim_stamp : (sets : List ℕ) (f : Bool) (s : Side) (h t : ℕ) (p : Place) → 0 < row_kind.asks (claim_out (block_claim f s h (block_of sets p)) (market_of (h + 1) s p) (limit_of (h + 1) s t p)) → (b : Bid) × ((p ≡ held b) × (row_kind.stamp (claim_out (block_claim f s h (block_of sets p)) (market_of (h + 1) s p) (limit_of (h + 1) s t p)) ≡ b.stamp))
claim_stamp sets f s h t vacant some = absurd (omega arith)
claim_stamp sets f s h t (held b) some = (
  b,
  (
    refl,
    stamp_out b.stamp _ _ _
        (block_claim_stamp f s h (block_of sets (held b)) b.stamp (λ k e. let found = block_stamp sets (held b) k e in found.1.1 ∙ ap (λ (q : Place). elim q [ vacant ↦ 0 | held c ↦ c.stamp ]) (sym found.1.0)))
        (market_stamp (bids_in (h + 1) s b) b b.offer.form) (limit_stamp (bids_in (h + 1) s b) b t b.offer.form) some,
  ),
)

module _ (ps : List Place) (sets : List ℕ) (ms : List Mark) (h t : ℕ) (side : Side) (within : h < 24) where
  pub distinct : Stamped ps → Distinct row_kind.asks row_kind.stamp (row_claims ps sets ms h t side)
  distinct apart i j d ij jn ai aj same =
      let n = tabled_length (row_claim ps sets ms h t side) (length ps) in
      let ei = tabled_at (row_claim ps sets ms h t side) (length ps) i d (omega (arith, n)) in
      let ej = tabled_at (row_claim ps sets ms h t side) (length ps) j d (omega (arith, n)) in
      let bi = claim_stamp sets (is_kept (get_or ms i Kept)) side h t (place_at ps i) (omega (arith, ap row_kind.asks ei)) in
      let bj = claim_stamp sets (is_kept (get_or ms j Kept)) side h t (place_at ps j) (omega (arith, ap row_kind.asks ej)) in
      let z : i ≡ j = apart.apart i j bi.0 bj.0 bi.1.0 bj.1.0 (sym bi.1.1 ∙ sym (ap row_kind.stamp ei) ∙ same ∙ ap row_kind.stamp ej ∙ bj.1.1) in
      absurd (omega arith)

-- sums of shares

abbrev pick : Side → ℕ → ℕ → ℕ
pick Buy b s = b
pick Sell b s = s

side_buy : (b s : ℕ) → surplus_side b s ≡ Buy → s < b
side_buy b s e = elim (cases_lt s b) [
  | inl l ↦ l
  | inr g ↦ let no : surplus_side b s ≡ Sell = ap (λ q. cond q Buy Sell) (le-ltb s b g) in absurd (cc)
]

side_sell : (b s : ℕ) → surplus_side b s ≡ Sell → b ≤ s
side_sell b s e = elim (cases_lt s b) [
  | inl l ↦ let no : surplus_side b s ≡ Buy = ap (λ q. cond q Buy Sell) (lt-ltb s b l) in absurd (cc)
  | inr g ↦ g
]

adds_up : (side rs : Side) (b s e x filled total : ℕ) → (rs ≡ Buy → s < b) → (rs ≡ Sell → b ≤ s) → e ≡ min b s → x ≡ (b - s) + (s - b) → filled ≤ x → b ≤ 51200000 → s ≤ 51200000 → total ≡ pick side b s → min (cond (same_side side rs) (min (e + filled) 18446744073709551615) e) total ≡ cond (same_side side rs) (e + filled) e
adds_up Buy Buy b s e x filled total lo hi ee ex h fb fs t = let l : s < b = lo refl in omega arith
adds_up Buy Sell b s e x filled total lo hi ee ex h fb fs t = let l : b ≤ s = hi refl in omega arith
adds_up Sell Buy b s e x filled total lo hi ee ex h fb fs t = let l : s < b = lo refl in omega arith
adds_up Sell Sell b s e x filled total lo hi ee ex h fb fs t = let l : b ≤ s = hi refl in omega arith

fits_other : (side rs : Side) (b s e filled : ℕ) → same_side side rs ≡ false → (rs ≡ Buy → s < b) → (rs ≡ Sell → b ≤ s) → e ≡ min b s → pick side b s ≤ cond (same_side side rs) (min (e + filled) 18446744073709551615) e
fits_other Buy Buy b s e filled off lo hi ee = absurd (cc)
fits_other Buy Sell b s e filled off lo hi ee = let l : b ≤ s = hi refl in omega arith
fits_other Sell Buy b s e filled off lo hi ee = let l : s < b = lo refl in omega arith
fits_other Sell Sell b s e filled off lo hi ee = absurd (cc)

enough : (q : Bool) (load e filled : ℕ) → load ≤ e → e ≤ 51200000 → load ≤ cond q (min (e + filled) 18446744073709551615) e
enough true load e filled h k = omega arith
enough false load e filled h k = h

-- a standing block that does not fail is not short

none_short : (l s : Bool) → cause_of true l s ≡ None → s ≡ false
none_short true s e = absurd (cc)
none_short false true e = absurd (cc)
none_short false false e = refl

false_unless : (q : Bool) → (q ≡ true → true ≡ false) → q ≡ false
false_unless true h = h refl
false_unless false h = refl

same_own : (s : Side) → same_side s s ≡ true
same_own Buy = refl
same_own Sell = refl

stood_short : (f : Bool) (l s : Block → Bool) (o : Option Block) (b : Block) → f ≡ true → o ≡ Some b → verdict_of f l s o ≡ None → s b ≡ false
stood_short f l s o b p q e = none_short (l b) (s b) (sym (ap (λ x. verdict_of x l s (Some b)) p) ∙ sym (ap (verdict_of f l s) q) ∙ e)

-- a row has a claim on the side of its order alone

with_side : (b : Bid) (hours : ℕ) (x : Option (ℕ × Option ℕ)) (k : Block) → block_with b hours x ≡ Some k → k.side ≡ b.offer.side
with_side b hours None k e = absurd (cc)
with_side b hours (Some x) k e = let same : record { side = b.offer.side; hours = hours; volume = x.0; limit = x.1; stamp = b.stamp } ≡ k = cc in sym (ap (λ (y : Block). y.side) same)

in_side : (q : Bool) (b : Bid) (o : Option ℕ) (k : Block) → cond q (block_in b o) None ≡ Some k → k.side ≡ b.offer.side
in_side false b o k e = absurd (cc)
in_side true b None k e = absurd (cc)
in_side true b (Some hours) k e = with_side b hours (block_terms b.offer.form) k e

off_side : (f g : Bool) → (f && (false && g)) ≡ false
off_side true g = refl
off_side false g = refl

off_hour : (q : Bool) → (q && false) ≡ false
off_hour true = refl
off_hour false = refl

block_off : (f : Bool) (side : Side) (h : ℕ) (o : Option Block) → ((k : Block) → o ≡ Some k → same_side side k.side ≡ false) → block_claim f side h o ≡ None
block_off f side h None off = refl
block_off f side h (Some b) off =
    ap (λ q. cond (f && (q && in_hour b.hours h)) (Some (claim_of b)) None) (off b refl) ∙ ap (λ q. cond q (Some (claim_of b)) None) (off_side f (in_hour b.hours h))

pub claim_off : (sets : List ℕ) (f : Bool) (side : Side) (h t : ℕ) (b : Bid) → same_side side b.offer.side ≡ false → same_side b.offer.side side ≡ false → claim_out (block_claim f side h (block_of sets (held b))) (market_of (h + 1) side (held b)) (limit_of (h + 1) side t (held b)) ≡ None
claim_off sets f side h t b off off' =
    let out = off_hour (eqb b.product (h + 1)) in
    let here : bids_in (h + 1) side b ≡ false = ap (λ q. eqb b.product (h + 1) && q) off' ∙ out in
    let x : block_claim f side h (block_of sets (held b)) ≡ None = block_off f side h (block_of sets (held b)) (λ k e. ap (same_side side) (in_side (ltb 24 b.product) b _ k e) ∙ off) in
    let y : market_of (h + 1) side (held b) ≡ None = ap (λ q. cond q (market_bid b b.offer.form) None) here in
    let z : limit_of (h + 1) side t (held b) ≡ None = ap (λ q. cond q (limit_bid b t b.offer.form) None) here in
    ap (λ o. claim_out o (market_of (h + 1) side (held b)) (limit_of (h + 1) side t (held b))) x ∙ ap (λ o. claim_out None o (limit_of (h + 1) side t (held b))) y ∙ ap (λ o. claim_out None None o) z

pub one_side : (s : Side) (x y : ℕ) → (same_side Buy s ≡ false → x ≡ 0) → (same_side Sell s ≡ false → y ≡ 0) → max x y ≡ pick s x y
one_side Buy x y p q = omega (arith, q refl)
one_side Sell x y p q = omega (arith, p refl)

flip : (a b : Side) → same_side a b ≡ false → same_side b a ≡ false
flip Buy Buy e = e
flip Buy Sell e = refl
flip Sell Buy e = refl
flip Sell Sell e = e

picked : (s : Side) (f : Side → ℕ) → pick s (f Buy) (f Sell) ≡ f s
picked Buy f = refl
picked Sell f = refl

module _ (rows : List (Option Entry)) (sets : List ℕ) (ms : List Mark) (h : ℕ) (r : HourResult) (filled : ℕ) (few : length rows ≤ 256) (within : h < 24) where
  abbrev ps : List Place
  ps = places rows

  abbrev bs : List (Option Block)
  bs = blocks_of sets ps

  -- the two sides at the published price
  pub record Sides (refs : List ℕ) (fs : List Bool) : Type 0 where
    pub executed_is : r.executed ≡ min (bought ps bs refs fs h r.price) (sold ps bs refs fs h r.price)
    pub surplus_is : r.surplus ≡ (bought ps bs refs fs h r.price - sold ps bs refs fs h r.price) + (sold ps bs refs fs h r.price - bought ps bs refs fs h r.price)
    pub side_is : r.side ≡ surplus_side (bought ps bs refs fs h r.price) (sold ps bs refs fs h r.price)
    pub few_bought : bought ps bs refs fs h r.price ≤ 51200000
    pub few_sold : sold ps bs refs fs h r.price ≤ 51200000

  sides : (refs : List ℕ) (fs : List Bool) → r ≡ result_of ps bs refs fs h → Sides refs fs
  unfolding result_of
  sides refs fs e =
      let b : ℕ → ℕ = bought ps bs refs fs h in
      let s : ℕ → ℕ = sold ps bs refs fs h in
      let p = sym (ap (λ (x : HourResult). x.price) e) in
      let short : length bs ≤ 256 = omega (arith, blocks_length sets ps, places_length rows) in
      record {
        executed_is = ap (λ (x : HourResult). x.executed) e ∙ ap (λ t. min (b t) (s t)) p;
        surplus_is = ap (λ (x : HourResult). x.surplus) e ∙ ap (λ t. (b t - s t) + (s t - b t)) p;
        side_is = ap (λ (x : HourResult). x.side) e ∙ ap (λ t. surplus_side (b t) (s t)) p;
        few_bought = omega (arith, book_few (h + 1) Buy rows r.price, load_few bs fs Buy h short (blocks_small sets rows));
        few_sold = omega (arith, book_few (h + 1) Sell rows r.price, load_few bs fs Sell h short (blocks_small sets rows));
      }

  total_is : (refs : List ℕ) (fs : List Bool) (side : Side) → load_of bs fs side h + book_shows (h + 1) side ps r.price ≡ pick side (bought ps bs refs fs h r.price) (sold ps bs refs fs h r.price)
  total_is refs fs Buy = omega arith
  total_is refs fs Sell = omega arith

  balanced : Stamped ps → FromClearing ps sets ms h r filled → filled ≤ r.surplus → (side : Side) → sum (shares_on ps sets ms h r filled side) ≡ cond (same_side side r.side) (r.executed + filled) r.executed
  balanced apart f l side =
      let refs = f.refs in
      let fs = (rounds_of bs (results_of ps bs refs)).standing in
      let c = cleared ps sets ms h r filled within f in
      let at = sides refs fs c.result_is in
      let b : ℕ = bought ps bs refs fs h r.price in
      let s : ℕ = sold ps bs refs fs h r.price in
      let asked = all_asked ps sets ms fs h r.price side within c.standing in
      (ruled ps sets ms h r.price side within (shared_out r filled side)).whole (distinct ps sets ms h r.price side within apart)
      ∙ ap (min (shared_out r filled side)) (asked ∙ total_is refs fs side)
      ∙ adds_up side r.side b s r.executed r.surplus filled _ (λ e. side_buy b s (sym at.side_is ∙ e)) (λ e. side_sell b s (sym at.side_is ∙ e)) at.executed_is at.surplus_is l at.few_bought at.few_sold refl

  all_full : FromClearing ps sets ms h r filled → (side : Side) → same_side side r.side ≡ false → shares_on ps sets ms h r filled side ≡ map row_kind.asks (row_claims ps sets ms h r.price side)
  all_full f side off =
      let refs = f.refs in
      let fs = (rounds_of bs (results_of ps bs refs)).standing in
      let c = cleared ps sets ms h r filled within f in
      let at = sides refs fs c.result_is in
      let b : ℕ = bought ps bs refs fs h r.price in
      let s : ℕ = sold ps bs refs fs h r.price in
      let total : sum_by row_kind.asks (row_claims ps sets ms h r.price side) ≡ pick side b s = all_asked ps sets ms fs h r.price side within c.standing ∙ total_is refs fs side in
      let small : pick side b s ≤ shared_out r filled side = fits_other side r.side b s r.executed filled off (λ e. side_buy b s (sym at.side_is ∙ e)) (λ e. side_sell b s (sym at.side_is ∙ e)) at.executed_is in
      (ruled ps sets ms h r.price side within (shared_out r filled side)).enough (omega (arith, total, small))

  -- what the standing blocks of a side ask for is executed where one of them stands
  load_fits : (f : FromClearing ps sets ms h r filled) (k : ℕ) (b : Block) → k < length ps → block_of sets (place_at ps k) ≡ Some b → get_or ms k Kept ≡ Kept → in_hour b.hours h ≡ true → load_of bs (rounds_of bs (results_of ps bs f.refs)).standing b.side h ≤ r.executed
  load_fits f k b l is kept hour =
      let refs = f.refs in
      let fs = (rounds_of bs (results_of ps bs refs)).standing in
      let rs = results_of ps bs refs fs in
      let c = cleared ps sets ms h r filled within f in
      let stands : get_or fs k false ≡ true = sym (c.standing k l) ∙ ap is_kept kept in
      let short_no : short bs fs rs b ≡ false = stood_short (get_or fs k false) (λ x. loss x rs) (short bs fs rs) (get_or bs k None) b stands (blocks_at sets ps k l ∙ is) (c.fails_not k l) in
      let here : short_in bs fs rs b h ≡ false = false_unless (short_in bs fs rs b h) (λ e. sym (any_from (short_in bs fs rs b) day_hours h within e) ∙ short_no) in
      let under : ltb (result_at rs h).executed (load_of bs fs b.side h) ≡ false = sym (ap (λ q. q && ltb (result_at rs h).executed (load_of bs fs b.side h)) hour) ∙ here in
      let same : (result_at rs h).executed ≡ r.executed = ap (λ (x : HourResult). x.executed) (tabled_at (result_of ps bs refs fs) day_hours h no_result within ∙ sym c.result_is) in
      omega (arith, ltb-false _ _ under, same)

  block_claimed : (k : ℕ) (b : Block) → block_of sets (place_at ps k) ≡ Some b → get_or ms k Kept ≡ Kept → in_hour b.hours h ≡ true → row_claim ps sets ms h r.price b.side k ≡ Some (inl (claim_of b))
  block_claimed k b is kept hour =
      let y = market_of (h + 1) b.side (place_at ps k) in
      let z = limit_of (h + 1) b.side r.price (place_at ps k) in
      let test = and_from (is_kept (get_or ms k Kept)) (same_side b.side b.side && in_hour b.hours h) (ap is_kept kept) (and_from (same_side b.side b.side) (in_hour b.hours h) (same_own b.side) hour) in
      ap (λ o. claim_out (block_claim (is_kept (get_or ms k Kept)) b.side h o) y z) is ∙ ap (λ q. claim_out (cond q (Some (claim_of b)) None) y z) test

  blocks_sum : (fs : List Bool) (side : Side) → ((k : ℕ) → k < length ps → is_kept (get_or ms k Kept) ≡ get_or fs k false) → sum_by (place_kind block_kind).asks (map first_of (row_claims ps sets ms h r.price side)) ≡ load_of bs fs side h
  blocks_sum fs side standing =
      let row : ℕ → Option HourClaim = row_claim ps sets ms h r.price side in
      ap (sum_by (place_kind block_kind).asks) (map_tabled first_of row (length ps)) ∙ sum_tabled (place_kind block_kind).asks (λ k. first_of (row k)) (length ps)
      ∙ upto_same _ _ (length ps) (λ k l. ap (place_kind block_kind).asks (first_out (block_claim (is_kept (get_or ms k Kept)) side h (block_of sets (place_at ps k))) (market_of (h + 1) side (place_at ps k)) (limit_of (h + 1) side r.price (place_at ps k))))
      ∙ load_asked ps sets ms fs h r.price side within standing

  whole : FromClearing ps sets ms h r filled → (k : ℕ) (b : Block) → k < length ps → block_of sets (place_at ps k) ≡ Some b → get_or ms k Kept ≡ Kept → in_hour b.hours h ≡ true → get_or (shares_on ps sets ms h r filled b.side) k 0 ≡ b.volume
  whole f k b l is kept hour =
      let refs = f.refs in
      let fs = (rounds_of bs (results_of ps bs refs)).standing in
      let c = cleared ps sets ms h r filled within f in
      let at = sides refs fs c.result_is in
      let side = b.side in
      let cs = row_claims ps sets ms h r.price side in
      let xs = map first_of cs in
      let volume = shared_out r filled side in
      let claim : row_claim ps sets ms h r.price side k ≡ Some (inl (claim_of b)) = block_claimed k b is kept hour in
      let fits : sum_by (place_kind block_kind).asks xs ≤ volume = omega (arith, blocks_sum fs side c.standing, enough (same_side side r.side) (load_of bs fs side h) r.executed filled (load_fits f k b l is kept hour) (omega (arith, at.executed_is, at.few_bought))) in
      let long : length cs ≡ length ps = tabled_length (row_claim ps sets ms h r.price side) (length ps) in
      let there : get_or xs k None ≡ Some (claim_of b) = get_or-map first_of cs k None None (omega (arith, long)) ∙ ap first_of (tabled_at (row_claim ps sets ms h r.price side) (length ps) k None l ∙ claim) in
      let has = subst (Has xs) there (has_get_or xs k None (omega (arith, length-map cs (first_of {A = BlockClaim} {B = MarketClaim} {C = LimitClaim}), long))) in
      let served = all_served (place_kind block_kind).asks (place_kind block_kind).stamp (place_kind block_kind).before ranking volume xs fits (Some (claim_of b)) has in
      share_at ps sets ms h r.price side within volume k l ∙ ap (share_of row_kind.asks row_kind.before volume cs) claim
      ∙ row_share block_kind market_kind limit_kind volume cs (Some (inl (claim_of b))) ∙ omega (arith, served)

  own : (k : ℕ) (b : Bid) → k < length ps → place_at ps k ≡ held b → get_or (hour_shares ps sets ms h r filled) k 0 ≡ get_or (shares_on ps sets ms h r filled b.offer.side) k 0
  own k b l is =
      let on : Side → ℕ = λ side. get_or (shares_on ps sets ms h r filled side) k 0 in
      let none : (side : Side) → same_side side b.offer.side ≡ false → on side ≡ 0 = λ side off.
      share_at ps sets ms h r.price side within (shared_out r filled side) k l
      ∙ ap (λ p. share_of row_kind.asks row_kind.before (shared_out r filled side) (row_claims ps sets ms h r.price side) (claim_out (block_claim (is_kept (get_or ms k Kept)) side h (block_of sets p)) (market_of (h + 1) side p) (limit_of (h + 1) side r.price p))) is
      ∙ ap (share_of row_kind.asks row_kind.before (shared_out r filled side) (row_claims ps sets ms h r.price side)) (claim_off sets (is_kept (get_or ms k Kept)) side h r.price b off (flip side b.offer.side off))
      ∙ omega arith in
      tabled_at (λ j. max (get_or (shares_on ps sets ms h r filled Buy) j 0) (get_or (shares_on ps sets ms h r filled Sell) j 0)) (length ps) k 0 l
      ∙ one_side b.offer.side (on Buy) (on Sell) (none Buy) (none Sell) ∙ picked b.offer.side on

  pub hour_shared : HourShared ps sets ms h r filled
  hour_shared = record {
    ruled = λ side. ruled ps sets ms h r.price side within (shared_out r filled side);
    own = own;
    balance = balanced;
    others = all_full;
    whole = whole;
  }
