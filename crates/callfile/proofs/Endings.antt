-- An item whose value says which byte ends it: it is faithful, and a reader's steps through it.
use Rattle.std.proofs.Common.{◌≡◌, ℕ, ◌+◌, Bool, true, false, eqb, List, [], ◌∷◌, ◌++◌, length, sym, refl, ap, ◌∙◌, add-zero, arith}
use Rattle.faults.specs.declared.fault.Fault.{Fault}
use Rattle.faults.specs.declared.fault.Refusal.TheVariants.{Misfit}
use Rattle.faults.specs.Refusals.{fault}
use Rattle.text.specs.declared.reader.Reader.{Reader}
use Rattle.text.specs.Format.{Outcome, got, refused, onward, Verdict, fit, unfit, outside, Item, parting, run, after, closed, judged, judged_alone, alone, Faithful}
use Rattle.text.specs.Tokens.{ahead}
use Rattle.text.proofs.Laws.{Lawful, faithful_item}
use Rattle.text.proofs.Steps.{closed_value as closed_unit}
use Rattle.callfile.specs.Ended.{judged_by, ended, nothing}

closed_value : {A : Type 0} (c : ℕ) (b a : A) (l p : ℕ) (bs : List ℕ) (q : ℕ) (cs : List ℕ) → closed c b l p bs ≡ got a q cs → b ≡ a
closed_value c b a l p [] q cs e = let z : ◌≡◌ {A = ℕ} 0 1 = cc in absurd (omega arith)
closed_value c b a l p (x ∷ xs) q cs e = go (eqb x c) refl
  where
    go : (t : Bool) → eqb x c ≡ t → b ≡ a
    go true h = let e' : got b (p + 1) xs ≡ got a q cs = rw h at e in cc
    go false h = let e' : refused (fault (Misfit p) l) ≡ got a q cs = rw h at e in let z : ◌≡◌ {A = ℕ} 0 1 = cc in absurd (omega arith)

module _ {A : Type 0} (c : A → ℕ) where
  -- a value and the byte that ends it, read as an item with that byte
  as_item : (v : Verdict A) (l p n : ℕ) (bs : List ℕ) (a : A) (q : ℕ) (cs : List ℕ) → judged_by c v l p n bs ≡ got a q cs → judged v (c a) l p n bs ≡ got a q cs
  as_item (fit b) l p n bs a q cs e = ap (λ x. closed (c x) b l (p + n) bs) (sym (closed_value (c b) b a l (p + n) bs q cs e)) ∙ e
  as_item unfit l p n bs a q cs e = e
  as_item outside l p n bs a q cs e = e

  of_item : (v : Verdict A) (l p n : ℕ) (bs : List ℕ) (a : A) (q : ℕ) (cs : List ℕ) → judged v (c a) l p n bs ≡ got a q cs → judged_by c v l p n bs ≡ got a q cs
  of_item (fit b) l p n bs a q cs e = ap (λ x. closed (c x) b l (p + n) bs) (closed_value (c a) b a l (p + n) bs q cs e) ∙ e
  of_item unfit l p n bs a q cs e = e
  of_item outside l p n bs a q cs e = e

  pub faithful_ended : (I : Item A) → Lawful I → ((a : A) → parting (c a) ≡ true) → Faithful (ended c I)
  faithful_ended I L k = record {
    sound = λ l p bs a q cs e. (faithful_item I (c a) L (k a)).sound l p bs a q cs (as_item (I.judge (run bs)) l p (length (run bs)) (after bs) a q cs e);
    full = λ l p a cs h.
        let text = I.spell a ++ (c a ∷ []) in
        let bs = text ++ cs in
        of_item (I.judge (run bs)) l p (length (run bs)) (after bs) a (p + length text) cs ((faithful_item I (c a) L (k a)).full l p a cs h);
  }

  -- an item, and then what ends it
  judged_then : (v : Verdict A) (l p n : ℕ) (bs : List ℕ) → onward (judged_alone v l p n bs) (λ a q cs. closed (c a) a l q cs) ≡ judged_by c v l p n bs
  judged_then (fit a) l p n bs = refl
  judged_then unfit l p n bs = refl
  judged_then outside l p n bs = refl

  module _ (I : Item A) (l : ℕ) (s : Reader) where
    -- the item led from s to t, and o is the reading of what ends it
    pub ended_on : (t : Reader) (a : A) (o : Outcome (Unit {0})) → got a t.at (ahead t) ≡ alone I l s.at (ahead s) → o ≡ closed (c a) (tt {0}) l t.at (ahead t) → onward o (λ _ q cs. got a q cs) ≡ (ended c I).read l s.at (ahead s)
    ended_on t a o e h =
        ap (λ o. onward o (λ _ q cs. got a q cs)) h ∙ sym (closed_unit (c a) a l t.at (ahead t)) ∙ ap (λ o. onward o (λ a q cs. closed (c a) a l q cs)) e
        ∙ judged_then (I.judge (run (ahead s))) l s.at (length (run (ahead s))) (after (ahead s))

    -- the item does not fit
    pub ended_no : (f : Fault) → refused f ≡ alone I l s.at (ahead s) → refused f ≡ (ended c I).read l s.at (ahead s)
    ended_no f e = ap (λ o. onward o (λ a q cs. closed (c a) a l q cs)) e ∙ judged_then (I.judge (run (ahead s))) l s.at (length (run (ahead s))) (after (ahead s))

pub faithful_nothing : Faithful nothing
faithful_nothing = record {
  sound = λ l p bs a q cs e.
      let y : p ≡ q = cc in
      let z : bs ≡ cs = cc in
      (z, omega arith, tt);
  full = λ l p a cs h. ap (λ n. got (tt {0}) n cs) (sym (add-zero p));
}
