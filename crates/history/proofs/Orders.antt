-- The orders of a day: no two have one stamp, none is refused by itself, and at most 32 are blocks.
use Rattle.std.proofs.Common.{◌≡◌, ℕ, zero, suc, ◌+◌, ◌<◌, ◌≤◌, Bool, true, false, cond, ◌&&◌, eqb, leb, ◌⊎◌, List, [], ◌∷◌, map, length, drop, set, Ok, Err, Result, sym, refl, ap, ◌∙◌, subst, inl, inr, add-one, arith}
use Rattle.std.specs.List.{range_with_len}
use Rattle.std.proofs.lemmas.Bool.Decides.{nat_tests, eqb_tells}
use Rattle.faults.specs.declared.fault.Fault.{Fault}
use Rattle.book.specs.Bids.{Asked, Bid, Place, vacant, held, bid_of}
use Rattle.book.specs.Places.{holds_block, blocks_held, others}
use Rattle.book.specs.Verdicts.{is_block, verdict}
use Rattle.calls.specs.Moves.{Move, entering, changing, withdrawing, fixing, recalling, confirming, posting, finishing, overfull}
use Rattle.dayfile.specs.Sequence.{order_at}
use Rattle.day.specs.Answers.{answer}
use Rattle.history.specs.Events.{Event, event}
use Rattle.history.specs.Told.{stamps_given, row_told, table_told, state_told, Answered}
use Rattle.history.proofs.Granting.{Grants, grants, never, row_asked, row_withdrawn}
use Rattle.history.proofs.Rows.{table_length, table_set, table_same}

-- the blocks of a table in which one place is set
drop_cons : (p : Place) (ps : List Place) (r : ℕ) → drop (suc r + 1) (p ∷ ps) ≡ drop (r + 1) ps
drop_cons p ps r = simp add-one

drop_nothing : (n : ℕ) → drop {A = Place} n [] ≡ []
drop_nothing zero = refl
drop_nothing (suc n) = refl

others_cons : (p : Place) (ps : List Place) (r : ℕ) → others (suc r) (p ∷ ps) ≡ cond (holds_block p) 1 0 + others r ps
unfolding blocks_held others
others_cons p ps r = omega (arith, ap blocks_held (drop_cons p ps r))

others_none : (p : Place) (ps : List Place) → others 0 (p ∷ ps) ≡ blocks_held ps
unfolding blocks_held others
others_none p ps = omega arith

others_empty : (r : ℕ) → others r [] ≡ 0
unfolding blocks_held others
others_empty zero = refl
others_empty (suc r) = omega (arith, ap blocks_held (drop_nothing (suc r + 1)))

pub blocks_set : (ps : List Place) (r : ℕ) (x : Place) → r < length ps → blocks_held (set ps r x) ≡ others r ps + cond (holds_block x) 1 0
unfolding blocks_held
blocks_set [] r x l = absurd (omega arith)
blocks_set (p ∷ ps) zero x l = omega (arith, others_none p ps)
blocks_set (p ∷ ps) (suc r) x l = omega (arith, others_cons p ps r, blocks_set ps r x (omega arith))

others_few : (ps : List Place) (r : ℕ) → others r ps ≤ blocks_held ps
unfolding blocks_held
others_few [] r = omega (arith, others_empty r)
others_few (p ∷ ps) zero = omega (arith, others_none p ps)
others_few (p ∷ ps) (suc r) = omega (arith, others_cons p ps r, others_few ps r)

-- what a place holds after one was set
set_cases : (r k : ℕ) (x y : Place) (b : Bid) → cond (eqb r k) x y ≡ held b → ((r ≡ k) × (x ≡ held b)) ⊎ (y ≡ held b)
set_cases r k x y b e = elim (eqb_tells r k) [
  | inl p ↦ inl (p.1, sym (ap (λ t. cond t x y) p.0) ∙ e)
  | inr p ↦ inr (sym (ap (λ t. cond t x y) p.0) ∙ e)
]

pub vacant_held : {X : Type 0} (b : Bid) → vacant ≡ held b → X
vacant_held b e = absurd cc

held_is : (a b : Bid) → held a ≡ held b → a ≡ b
held_is a b e = cc

-- the table before any event holds nothing
blocks_vacant : (n a : ℕ) → blocks_held (map (λ k. row_told k []) (range_with_len a n)) ≡ 0
unfolding blocks_held
blocks_vacant zero a = refl
blocks_vacant (suc n) a = omega (arith, blocks_vacant n (a + 1))

none_held : blocks_held (table_told []) ≤ 32
unfolding table_told
none_held = omega (arith, blocks_vacant 256 0)

module _ (refs sets : List ℕ) where
  pub record Ordered (h : List Event) : Type 0 where
    pub bound : (k : ℕ) (b : Bid) → row_told k h ≡ held b → b.stamp ≤ stamps_given h
    pub apart : (i j : ℕ) (a b : Bid) → row_told i h ≡ held a → row_told j h ≡ held b → a.stamp ≡ b.stamp → i ≡ j
    pub lawful : (k : ℕ) (b : Bid) → row_told k h ≡ held b → verdict (length sets) (order_at k b) ≡ Ok tt
    pub few : blocks_held (table_told h) ≤ 32

  -- an order written under the next stamp
  module _ (h : List Event) (m : Move) (a : Asked) (v : ℕ) (s : Ordered h) (mine : verdict (length sets) a ≡ Ok tt) (room : (is_block a.product && leb 32 (others a.row (table_told h))) ≡ false)
      (rows : (k : ℕ) → row_told k (event m (Ok v) ∷ h) ≡ cond (eqb a.row k) (held (bid_of a (stamps_given h + 1))) (row_told k h)) (more : stamps_given (event m (Ok v) ∷ h) ≡ stamps_given h + 1) where
    abbrev new : Place
    new = held (bid_of a (stamps_given h + 1))

    found : (k : ℕ) (b : Bid) → row_told k (event m (Ok v) ∷ h) ≡ held b → ((a.row ≡ k) × (bid_of a (stamps_given h + 1) ≡ b)) ⊎ (row_told k h ≡ held b)
    found k b e = elim (set_cases a.row k new (row_told k h) b (sym (rows k) ∙ e)) [ inl p ↦ inl (p.0, held_is (bid_of a (stamps_given h + 1)) b p.1) | inr p ↦ inr p ]

    stamp_new : (b : Bid) → bid_of a (stamps_given h + 1) ≡ b → b.stamp ≡ stamps_given h + 1
    stamp_new b e = sym (ap (λ (x : Bid). x.stamp) e)

    few_blocks : (t : Bool) (n before : ℕ) → (t && leb 32 n) ≡ false → n ≤ before → before ≤ 32 → n + cond t 1 0 ≤ 32
    few_blocks true n before e l k = grind (arith, nat_tests)
    few_blocks false n before e l k = omega arith

    written_ordered : Ordered (event m (Ok v) ∷ h)
    written_ordered = record {
      bound = λ k b e. elim (found k b e) [ inl p ↦ omega (arith, stamp_new b p.1, more) | inr p ↦ omega (arith, s.bound k b p, more) ];
      apart = λ i j x y ei ej same. elim (found i x ei) [
        | inl p ↦ elim (found j y ej) [
          | inl q ↦ sym p.0 ∙ q.0
          | inr q ↦ absurd (omega (arith, stamp_new x p.1, s.bound j y q, same))
        ]
        | inr p ↦ elim (found j y ej) [
          | inl q ↦ absurd (omega (arith, stamp_new y q.1, s.bound i x p, same))
          | inr q ↦ s.apart i j x y p q same
        ]
      ];
      lawful = λ k b e. elim (found k b e) [ inl p ↦ subst (λ (x : Asked). verdict (length sets) x ≡ Ok tt) (λ i. order_at (p.0 i) (p.1 i)) mine | inr p ↦ s.lawful k b p ];
      few =
          let t = table_told h in
          let within : a.row < length t = omega (arith, row_asked (length sets) a mine, table_length h) in
          let is = ap blocks_held (table_set h (event m (Ok v)) a.row new (row_asked (length sets) a mine) rows) in
          omega (arith, is, blocks_set t a.row new within, few_blocks (is_block a.product) (others a.row t) (blocks_held t) room (others_few t a.row) s.few);
    }

  -- a row emptied
  emptied_ordered : (h : List Event) (r m v : ℕ) → r < 256 → Ordered h → Ordered (event (withdrawing r m) (Ok v) ∷ h)
  emptied_ordered h r m v l s =
      let left : (k : ℕ) (b : Bid) → cond (eqb r k) vacant (row_told k h) ≡ held b → row_told k h ≡ held b = λ k b e. elim (set_cases r k vacant (row_told k h) b e) [ inl p ↦ vacant_held b p.1 | inr p ↦ p ] in
      record {
        bound = λ k b e. s.bound k b (left k b e);
        apart = λ i j x y ei ej same. s.apart i j x y (left i x ei) (left j y ej) same;
        lawful = λ k b e. s.lawful k b (left k b e);
        few =
            let t = table_told h in
            let within : r < length t = omega (arith, table_length h) in
            let is = ap blocks_held (table_set h (event (withdrawing r m) (Ok v)) r vacant l (λ k. refl)) in
            omega (arith, is, blocks_set t r vacant within, others_few t r, s.few);
      }

  -- rows that stay
  same_ordered : (h : List Event) (e : Event) → ((k : ℕ) → row_told k (e ∷ h) ≡ row_told k h) → stamps_given (e ∷ h) ≡ stamps_given h → Ordered h → Ordered (e ∷ h)
  same_ordered h e f n s = record {
    bound = λ k b x. omega (arith, s.bound k b (sym (f k) ∙ x), n);
    apart = λ i j x y ei ej same. s.apart i j x y (sym (f i) ∙ ei) (sym (f j) ∙ ej) same;
    lawful = λ k b x. s.lawful k b (sym (f k) ∙ x);
    few = omega (arith, ap blocks_held (table_same h e f), s.few);
  }

  granted_ordered : (h : List Event) (m : Move) (v : ℕ) → Grants (state_told refs sets h) m v → Ordered h → Ordered (event m (Ok v) ∷ h)
  granted_ordered h (entering a) v g s = written_ordered h (entering a) a v s g.alone g.further.1.0 (λ k. refl) refl
  granted_ordered h (changing a) v g s = written_ordered h (changing a) a v s g.alone g.further.1.1.0 (λ k. refl) refl
  granted_ordered h (withdrawing r m) v g s = emptied_ordered h r m v (row_withdrawn (length sets) r m g.alone) s
  granted_ordered h fixing v g s = same_ordered h (event fixing (Ok v)) (λ k. refl) refl s
  granted_ordered h recalling v g s = same_ordered h (event recalling (Ok v)) (λ k. refl) refl s
  granted_ordered h confirming v g s = same_ordered h (event confirming (Ok v)) (λ k. refl) refl s
  granted_ordered h (posting o) v g s = same_ordered h (event (posting o) (Ok v)) (λ k. refl) refl s
  granted_ordered h finishing v g s = same_ordered h (event finishing (Ok v)) (λ k. refl) refl s
  granted_ordered h overfull v g s = never (sym g.alone)

  step_ordered : (h : List Event) (m : Move) (r : Result ℕ Fault) → r ≡ answer (state_told refs sets h) m → Ordered h → Ordered (event m r ∷ h)
  step_ordered h m (Ok v) e s = granted_ordered h m v (grants (state_told refs sets h) m v e) s
  step_ordered h m (Err f) e s = same_ordered h (event m (Err f)) (λ k. refl) refl s

  pub ordered_told : (h : List Event) → Answered refs sets h → Ordered h
  ordered_told [] a = record {
    bound = λ k b e. vacant_held b e;
    apart = λ i j x y ei ej same. vacant_held x ei;
    lawful = λ k b e. vacant_held b e;
    few = none_held;
  }
  ordered_told (e ∷ h) a = step_ordered h e.move e.answer a.0 (ordered_told h a.1)
