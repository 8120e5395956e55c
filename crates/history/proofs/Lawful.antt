-- The law of every day that a history tells.
use Rattle.std.proofs.Common.{◌≡◌, ℕ, suc, ◌+◌, false, List, [], ◌∷◌, length, Ok, sym, refl, ap, ◌∙◌, subst, inl, inr, arith}
use Rattle.std.proofs.lemmas.List.{get_or_past}
use Rattle.std.proofs.lemmas.List.Elements.{recursion_from_All}
use Rattle.std.proofs.lemmas.Bool.Decides.{leb_tells}
use Rattle.book.specs.Bids.{Asked, Bid, Place, vacant, held}
use Rattle.book.specs.Places.{place_at}
use Rattle.book.specs.Verdicts.{verdict}
use Rattle.clearing.specs.Fixing.{Stamped}
use Rattle.dayfile.specs.Entered.{Holding, Proper}
use Rattle.dayfile.specs.Sequence.{order_at}
use Rattle.day.specs.States.{is_open}
use Rattle.history.specs.Events.{Event}
use Rattle.history.specs.Told.{row_told, table_told, state_told, Answered}
use Rattle.history.specs.Law.{Standing, SinceFix, DayLaw}
use Rattle.history.proofs.Rows.{table_length, table_at}
use Rattle.history.proofs.Splits.{untouched_told, last_told, opens_told, led_told, answered_told}
use Rattle.history.proofs.Phased.{phased, since_fix_told}
use Rattle.history.proofs.Orders.{ordered_told, vacant_held}

-- a row that holds something is one of the table
held_in : (h : List Event) (k : ℕ) (b : Bid) → place_at (table_told h) k ≡ held b → row_told k h ≡ held b
held_in h k b e = elim (leb_tells 256 k) [
  | inl p ↦ vacant_held b (sym (get_or_past (table_told h) k vacant (omega (arith, p.1, table_length h))) ∙ e)
  | inr p ↦ sym (table_at h k p.1) ∙ e
]

holding_from : (P : Asked → Type 0) (i : ℕ) (ps : List Place) → ((k : ℕ) (b : Bid) → place_at ps k ≡ held b → P (order_at (i + k) b)) → Holding P i ps
holding_from P i [] f = tt
holding_from P i (vacant ∷ ps) f = holding_from P (suc i) ps (λ k b e. subst (λ n. P (order_at n b)) (omega arith) (f (suc k) b e))
holding_from P i (held b ∷ ps) f =
    (subst (λ n. P (order_at n b)) (omega arith) (f 0 b refl), holding_from P (suc i) ps (λ k c e. subst (λ n. P (order_at n c)) (omega arith) (f (suc k) c e)))

module _ (refs sets : List ℕ) where
  pub stamped_told : (h : List Event) → Answered refs sets h → Stamped (table_told h)
  stamped_told h a = record { apart = λ i j x y ei ej same. (ordered_told refs sets h a).apart i j x y (held_in h i x ei) (held_in h j y ej) same }

  proper_told : (h : List Event) → Answered refs sets h → Proper (length sets) (table_told h)
  proper_told h a = record {
    long = table_length h;
    lawful = holding_from (λ x. verdict (length sets) x ≡ Ok tt) 0 (table_told h) (λ k b e. subst (λ n. verdict (length sets) (order_at n b) ≡ Ok tt) (omega arith) ((ordered_told refs sets h a).lawful k b (held_in h k b e)));
    few = (ordered_told refs sets h a).few;
  }

  pub law_told : (h : List Event) → Answered refs sets h → (is_open (state_told refs sets h).phase ≡ false → Standing (state_told refs sets h)) → DayLaw refs sets h (state_told refs sets h)
  law_told h a prices = record {
    untouched = λ k l f. table_at h k l ∙ untouched_told k h (recursion_from_All _ h f);
    last = λ k l later e earlier p f t. table_at h k l ∙ ap (row_told k) p ∙ last_told k later e earlier (recursion_from_All _ later f) t;
    stamps = refl;
    opens = λ f. opens_told h (recursion_from_All _ h f);
    led = λ later e earlier q p f g t. ap (λ x. (state_told refs sets x).phase) p ∙ led_told later e earlier q (recursion_from_All _ later f) g t;
    none = (phased refs sets h a).none;
    fixed = λ later e earlier p f g t. subst (λ x. SinceFix refs sets earlier e.answer (state_told refs sets x)) (sym p) (since_fix_told refs sets later e earlier (subst (Answered refs sets) p a) (recursion_from_All _ later f) g t);
    posts = refl;
    answered = λ later e earlier p. answered_told refs sets later e earlier (subst (Answered refs sets) p a);
    stamped = stamped_told h a;
    proper = proper_told h a;
    prices = prices;
  }
