-- A tested format and a staged sequence are faithful.
use Rattle.std.proofs.Common.{◌≡◌, ℕ, zero, suc, pred, ◌+◌, List, [], ◌∷◌, ◌++◌, length, sym, refl, ap, ◌∙◌, add-zero, add_assoc, arith, length-append}
use Rattle.std.proofs.lemmas.List.{append_assoc}
use Rattle.text.specs.Format.{Outcome, got, refused, onward, Format, Faithful}
use Rattle.text.specs.Staged.{Ruling, granted, denied, ruled, checked, recast, staged_read, staged_text, Stages, staged, many}

pub faithful_checked : {A : Type 0} (test : A → Ruling) (F : Format A) → Faithful F → Faithful (checked test F)
faithful_checked {A} test F f = record {
  sound = λ l p bs a q cs e. go l p bs a q cs (F.read l p bs) refl e;
  full = λ l p a cs h. rw (f.full l p a cs h.0, h.1);
}
  where
    rule : (l p : ℕ) (bs : List ℕ) (a : A) (q : ℕ) (cs : List ℕ) (b : A) (r : ℕ) (ds : List ℕ) → F.read l p bs ≡ got b r ds → (t : Ruling) → test b ≡ t → ruled t l b r ds ≡ got a q cs → (bs ≡ F.text a ++ cs) × (q ≡ p + length (F.text a)) × (F.Fits a × (test a ≡ granted))
    rule l p bs a q cs b r ds k granted t e =
        let x : a ≡ b = cc in
        let y : q ≡ r = cc in
        let z : cs ≡ ds = cc in
        let one = f.sound l p bs b r ds k in
        rw (x, y, z) (one.0, one.1, (one.2, t))
    rule l p bs a q cs b r ds k (denied why) t e = let z : ◌≡◌ {A = ℕ} 0 1 = cc in absurd (omega arith)

    go : (l p : ℕ) (bs : List ℕ) (a : A) (q : ℕ) (cs : List ℕ) (o : Outcome A) → F.read l p bs ≡ o → onward o (λ a q cs. ruled (test a) l a q cs) ≡ got a q cs → (bs ≡ F.text a ++ cs) × (q ≡ p + length (F.text a)) × (F.Fits a × (test a ≡ granted))
    go l p bs a q cs (got b r ds) k e = rule l p bs a q cs b r ds k (test b) refl e
    go l p bs a q cs (refused y) k e = let z : ◌≡◌ {A = ℕ} 0 1 = cc in absurd (omega arith)

pub faithful_recast : {A B : Type 0} (to : A → B) (from : B → A) (F : Format A) → ((a : A) → F.Fits a → from (to a) ≡ a) → Faithful F → Faithful (recast to from F)
faithful_recast {A} {B} to from F there f = record {
  sound = λ l p bs b q cs e. go l p bs b q cs (F.read l p bs) refl e;
  full = λ l p b cs h. rw (f.full l p (from b) cs h.0) (ap (λ x. got x (p + length (F.text (from b))) cs) h.1);
}
  where
    go : (l p : ℕ) (bs : List ℕ) (b : B) (q : ℕ) (cs : List ℕ) (o : Outcome A) → F.read l p bs ≡ o → onward o (λ a q cs. got (to a) q cs) ≡ got b q cs → (bs ≡ F.text (from b) ++ cs) × (q ≡ p + length (F.text (from b))) × (F.Fits (from b) × (to (from b) ≡ b))
    go l p bs b q cs (got a r ds) k e =
        let x : b ≡ to a = cc in
        let y : q ≡ r = cc in
        let z : cs ≡ ds = cc in
        let one = f.sound l p bs a r ds k in
        let w : from b ≡ a = ap from x ∙ there a one.2 in
        rw (w, y, z) (one.0, one.1, (one.2, sym x))
    go l p bs b q cs (refused y) k e = let z : ◌≡◌ {A = ℕ} 0 1 = cc in absurd (omega arith)

module _ {S A : Type 0} (F : S → Format A) (step : S → A → S) where
  -- what is known once a list was read
  abbrev Read : S → ℕ → ℕ → List ℕ → List A → ℕ → List ℕ → Type 0
  Read s n p bs xs q cs = (bs ≡ staged_text F step s xs ++ cs) × (q ≡ p + length (staged_text F step s xs)) × ((length xs ≡ n) × Stages F step s xs)

  staged_more : (n : ℕ) (s : S) → Faithful (F s) → (l p : ℕ) (bs : List ℕ) (zs : List A) (q : ℕ) (cs : List ℕ) (a : A) (r : ℕ) (ds : List ℕ) → (F s).read l p bs ≡ got a r ds → (o : Outcome (List A)) → ((ys : List A) (t : ℕ) (es : List ℕ) → o ≡ got ys t es → Read (step s a) n r ds ys t es) → onward o (λ ys t es. got (a ∷ ys) t es) ≡ got zs q cs → Read s (suc n) p bs zs q cs
  staged_more n s f l p bs zs q cs a r ds k (got ys t es) ih e =
      let x : zs ≡ a ∷ ys = cc in
      let y : q ≡ t = cc in
      let z : cs ≡ es = cc in
      let one = f.sound l p bs a r ds k in
      let two = ih ys t es refl in
      rw (x, y, z) (
        one.0 ∙ ap (λ u. (F s).text a ++ u) two.0 ∙ sym (append_assoc ((F s).text a) (staged_text F step (step s a) ys) es),
        rw length-append (omega (arith, one.1, two.1)),
        (ap suc two.2.0, (one.2, two.2.1)),
      )
  staged_more n s f l p bs zs q cs a r ds k (refused y) ih e = let z : ◌≡◌ {A = ℕ} 0 1 = cc in absurd (omega arith)

  staged_first : (n : ℕ) (s : S) → Faithful (F s) → (l p : ℕ) (bs : List ℕ) (zs : List A) (q : ℕ) (cs : List ℕ) (o : Outcome A) → (F s).read l p bs ≡ o → ((a : A) (r : ℕ) (ds : List ℕ) (ys : List A) (t : ℕ) (es : List ℕ) → staged_read F step (step s a) n l r ds ≡ got ys t es → Read (step s a) n r ds ys t es) → onward o (λ a r ds. onward (staged_read F step (step s a) n l r ds) (λ ys t es. got (a ∷ ys) t es)) ≡ got zs q cs → Read s (suc n) p bs zs q cs
  staged_first n s f l p bs zs q cs (got a r ds) k ih e = staged_more n s f l p bs zs q cs a r ds k (staged_read F step (step s a) n l r ds) (ih a r ds) e
  staged_first n s f l p bs zs q cs (refused y) k ih e = let z : ◌≡◌ {A = ℕ} 0 1 = cc in absurd (omega arith)

  module _ (f : (s : S) → Faithful (F s)) where
    staged_sound : (n : ℕ) (s : S) (l p : ℕ) (bs : List ℕ) (xs : List A) (q : ℕ) (cs : List ℕ) → staged_read F step s n l p bs ≡ got xs q cs → Read s n p bs xs q cs
    staged_sound zero s l p bs xs q cs e =
        let x : xs ≡ [] = cc in
        let y : q ≡ p = cc in
        let z : cs ≡ bs = cc in
        rw (x, y, z) (refl, omega arith, (refl, tt))
    staged_sound (suc n) s l p bs xs q cs e = staged_first n s (f s) l p bs xs q cs ((F s).read l p bs) refl (λ a r ds. staged_sound n (step s a) l r ds) e

    staged_full : (n : ℕ) (s : S) (l p : ℕ) (xs : List A) (cs : List ℕ) → n ≡ length xs → Stages F step s xs → staged_read F step s n l p (staged_text F step s xs ++ cs) ≡ got xs (p + length (staged_text F step s xs)) cs
    staged_full zero s l p [] cs h g = ap (λ n. got [] n cs) (sym (add-zero p))
    staged_full zero s l p (x ∷ xs) cs h g = absurd (omega arith)
    staged_full (suc n) s l p [] cs h g = absurd (omega arith)
    staged_full (suc n) s l p (x ∷ xs) cs h g =
        let k : n ≡ length xs = omega arith in
        let same = append_assoc ((F s).text x) (staged_text F step (step s x) xs) cs in
        let one = ap ((F s).read l p) same ∙ (f s).full l p x (staged_text F step (step s x) xs ++ cs) g.0 in
        let two = staged_full n (step s x) l (p + length ((F s).text x)) xs cs k g.1 in
        rw (one, two) (ap (λ n. got (x ∷ xs) n cs) (rw length-append (add_assoc p (length ((F s).text x)) (length (staged_text F step (step s x) xs)))))

    pub faithful_staged : (s : S) (n : ℕ) → Faithful (staged F step s n)
    faithful_staged s n = record {
      sound = staged_sound n s;
      full = λ l p xs cs h. staged_full n s l p xs cs (sym h.0) h.1;
    }

pub faithful_many : {A : Type 0} (F : ℕ → Format A) → ((k : ℕ) → Faithful (F k)) → (n : ℕ) → Faithful (many F n)
faithful_many F f n = faithful_staged (λ m. F (pred m)) (λ m _. pred m) (λ m. f (pred m)) n n
