-- Each way to make a format keeps it faithful.
use Rattle.std.proofs.Common.{◌≡◌, ℕ, ◌+◌, Bool, true, false, cond, not, eqb, List, [], ◌∷◌, ◌++◌, length, sym, refl, ap, ◌∙◌, add_assoc, arith, length-append}
use Rattle.std.proofs.lemmas.List.{append_assoc}
use Rattle.std.proofs.lemmas.Bool.{eqb-true, eq-eqb, and_parts, not-true}
use Rattle.faults.specs.declared.fault.Refusal.TheVariants.{Misfit, OutOfRange}
use Rattle.faults.specs.Refusals.{fault}
use Rattle.text.specs.Format.{Outcome, got, refused, onward, Format, Verdict, fit, unfit, outside, Item, parting, run, after, closed, item, then, line, dressed, Faithful}
use Rattle.text.specs.Items.{clean}

pub run_after : (bs : List ℕ) → run bs ++ after bs ≡ bs
run_after [] = refl
run_after (c ∷ cs) = elim (parting c) as (λ v. cond v [] (c ∷ run cs) ++ cond v (c ∷ cs) (after cs) ≡ c ∷ cs) [ true ↦ refl | false ↦ ap (λ l. c ∷ l) (run_after cs) ]

-- a clean text ends at the first byte that parts items
pub run_clean : (ds : List ℕ) (x : ℕ) (xs : List ℕ) → clean ds ≡ true → parting x ≡ true → run (ds ++ (x ∷ xs)) ≡ ds
run_clean [] x xs h e = rw e
run_clean (d ∷ ds) x xs h e =
    let p = and_parts (not (parting d)) (clean ds) h in
    rw (not-true (parting d) p.0) (ap (λ l. d ∷ l) (run_clean ds x xs p.1 e))

pub after_clean : (ds : List ℕ) (x : ℕ) (xs : List ℕ) → clean ds ≡ true → parting x ≡ true → after (ds ++ (x ∷ xs)) ≡ x ∷ xs
after_clean [] x xs h e = rw e
after_clean (d ∷ ds) x xs h e =
    let p = and_parts (not (parting d)) (clean ds) h in
    rw (not-true (parting d) p.0) (after_clean ds x xs p.1 e)

pub record Lawful {A : Type 0} (I : Item A) : Type 0 where
  pub back : (bs : List ℕ) (a : A) → I.judge bs ≡ fit a → (I.spell a ≡ bs) × I.Has a
  pub forth : (a : A) → I.Has a → I.judge (I.spell a) ≡ fit a
  pub whole : (a : A) → I.Has a → clean (I.spell a) ≡ true

-- what `closed` gives, taken apart
closed_parts : {A : Type 0} (c : ℕ) (b a : A) (l p : ℕ) (bs : List ℕ) (q : ℕ) (cs : List ℕ) → closed c b l p bs ≡ got a q cs → (b ≡ a) × (q ≡ p + 1) × (bs ≡ c ∷ cs)
closed_parts c b a l p [] q cs e = let z : ◌≡◌ {A = ℕ} 0 1 = cc in absurd (omega arith)
closed_parts c b a l p (x ∷ xs) q cs e = go (eqb x c) refl
  where
    go : (t : Bool) → eqb x c ≡ t → (b ≡ a) × (q ≡ p + 1) × (x ∷ xs ≡ c ∷ cs)
    go true h = let e' : got b (p + 1) xs ≡ got a q cs = rw h at e in let k = eqb-true x c h in (cc, cc, cc)
    go false h = let e' : refused (fault (Misfit p) l) ≡ got a q cs = rw h at e in let z : ◌≡◌ {A = ℕ} 0 1 = cc in absurd (omega arith)

item_sound : {A : Type 0} (I : Item A) (c : ℕ) → Lawful I → (l p : ℕ) (bs : List ℕ) (a : A) (q : ℕ) (cs : List ℕ) → (item I c).read l p bs ≡ got a q cs → (bs ≡ (item I c).text a ++ cs) × (q ≡ p + length ((item I c).text a)) × I.Has a
item_sound {A} I c L l p bs a q cs e = go (I.judge (run bs)) refl
  where
    go : (v : Verdict A) → I.judge (run bs) ≡ v → (bs ≡ (I.spell a ++ (c ∷ [])) ++ cs) × (q ≡ p + length (I.spell a ++ (c ∷ []))) × I.Has a
    go (fit b) h =
        let e' : closed c b l (p + length (run bs)) (after bs) ≡ got a q cs = rw h at e in
        let k = closed_parts c b a l (p + length (run bs)) (after bs) q cs e' in
        let h' : I.judge (run bs) ≡ fit a = h ∙ ap fit k.0 in
        let w = L.back (run bs) a h' in
        let n : length (I.spell a) ≡ length (run bs) = ap length w.0 in (
          sym (run_after bs) ∙ ap (λ r. r ++ after bs) (sym w.0) ∙ ap (λ r. I.spell a ++ r) k.2 ∙ sym (append_assoc (I.spell a) (c ∷ []) cs),
          rw length-append (omega (arith, k.1)),
          w.1,
        )
    go unfit h = let e' : refused (fault (Misfit p) l) ≡ got a q cs = rw h at e in let z : ◌≡◌ {A = ℕ} 0 1 = cc in absurd (omega arith)
    go outside h = let e' : refused (fault (OutOfRange p) l) ≡ got a q cs = rw h at e in let z : ◌≡◌ {A = ℕ} 0 1 = cc in absurd (omega arith)

pub faithful_item : {A : Type 0} (I : Item A) (c : ℕ) → Lawful I → parting c ≡ true → Faithful (item I c)
faithful_item I c L k = record {
  sound = item_sound I c L;
  full = λ l p a cs h.
      let same = append_assoc (I.spell a) (c ∷ []) cs in
      let w = L.whole a h in
      let r = ap run same ∙ run_clean (I.spell a) c cs w k in
      let s = ap after same ∙ after_clean (I.spell a) c cs w k in
      let j = ap I.judge r ∙ L.forth a h in
      rw (j, r, s, eq-eqb c c refl) (ap (λ n. got a n cs) (rw length-append (omega arith)));
}

pub faithful_then : {A B : Type 0} (F : Format A) (G : A → Format B) → Faithful F → ((a : A) → F.Fits a → Faithful (G a)) → Faithful (then F G)
faithful_then {A} {B} F G f g = record {
  sound = λ l p bs ab q cs e. go l p bs ab q cs (F.read l p bs) refl e;
  full = λ l p ab cs h.
      let x = ab.0 in
      let y = ab.1 in
      let same = append_assoc (F.text x) ((G x).text y) cs in
      let one = ap (F.read l p) same ∙ f.full l p x ((G x).text y ++ cs) h.0 in
      let two = (g x h.0).full l (p + length (F.text x)) y cs h.1 in
      rw (one, two) (ap (λ n. got (x, y) n cs) (rw length-append (add_assoc p (length (F.text x)) (length ((G x).text y)))));
}
  where
    go2 : (l p : ℕ) (bs : List ℕ) (ab : A × B) (q : ℕ) (cs : List ℕ) (a : A) (r : ℕ) (ds : List ℕ) → F.read l p bs ≡ got a r ds → (o : Outcome B) → (G a).read l r ds ≡ o → onward o (λ b s es. got (a, b) s es) ≡ got ab q cs → (bs ≡ (then F G).text ab ++ cs) × (q ≡ p + length ((then F G).text ab)) × (then F G).Fits ab
    go2 l p bs ab q cs a r ds k (got b s es) j e =
        let x : ab ≡ (a, b) = cc in
        let y : q ≡ s = cc in
        let z : cs ≡ es = cc in
        let one = f.sound l p bs a r ds k in
        let two = (g a one.2).sound l r ds b s es j in
        rw (x, y, z) (
          one.0 ∙ ap (λ u. F.text a ++ u) two.0 ∙ sym (append_assoc (F.text a) ((G a).text b) es),
          rw length-append (omega (arith, one.1, two.1)),
          (one.2, two.2),
        )
    go2 l p bs ab q cs a r ds k (refused f) j e = let z : ◌≡◌ {A = ℕ} 0 1 = cc in absurd (omega arith)

    go : (l p : ℕ) (bs : List ℕ) (ab : A × B) (q : ℕ) (cs : List ℕ) (o : Outcome A) → F.read l p bs ≡ o → onward o (λ a q cs. onward ((G a).read l q cs) (λ b r ds. got (a, b) r ds)) ≡ got ab q cs → (bs ≡ (then F G).text ab ++ cs) × (q ≡ p + length ((then F G).text ab)) × (then F G).Fits ab
    go l p bs ab q cs (got a r ds) k e = go2 l p bs ab q cs a r ds k ((G a).read l r ds) refl e
    go l p bs ab q cs (refused f) k e = let z : ◌≡◌ {A = ℕ} 0 1 = cc in absurd (omega arith)

pub faithful_line : {A : Type 0} (F : Format A) → Faithful F → Faithful (line F)
faithful_line F f = record { sound = λ l p. f.sound p p; full = λ l p. f.full p p }

pub faithful_dressed : {A B : Type 0} (to : A → B) (from : B → A) (F : Format A) → ((a : A) → F.Fits a → from (to a) ≡ a) → ((b : B) → to (from b) ≡ b) → Faithful F → Faithful (dressed to from F)
faithful_dressed {A} {B} to from F there back f = record {
  sound = λ l p bs b q cs e. go l p bs b q cs (F.read l p bs) refl e;
  full = λ l p b cs h. rw (f.full l p (from b) cs h) (ap (λ x. got x (p + length (F.text (from b))) cs) (back b));
}
  where
    go : (l p : ℕ) (bs : List ℕ) (b : B) (q : ℕ) (cs : List ℕ) (o : Outcome A) → F.read l p bs ≡ o → onward o (λ a q cs. got (to a) q cs) ≡ got b q cs → (bs ≡ F.text (from b) ++ cs) × (q ≡ p + length (F.text (from b))) × F.Fits (from b)
    go l p bs b q cs (got a r ds) k e =
        let x : b ≡ to a = cc in
        let y : q ≡ r = cc in
        let z : cs ≡ ds = cc in
        let one = f.sound l p bs a r ds k in
        let w : from b ≡ a = ap from x ∙ there a one.2 in
        rw (w, y, z) one
    go l p bs b q cs (refused f) k e = let z : ◌≡◌ {A = ℕ} 0 1 = cc in absurd (omega arith)
