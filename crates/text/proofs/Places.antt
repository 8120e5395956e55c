-- Each way to make a format keeps where its refusals by the text stand.
use Rattle.std.proofs.Common.{◌≡◌, ℕ, zero, suc, pred, ◌+◌, Bool, true, false, eqb, List, [], ◌∷◌, ◌++◌, length, sym, refl, ap, ◌∙◌, inl, inr, add-zero, arith, length-append}
use Rattle.std.proofs.lemmas.List.{append_assoc}
use Rattle.faults.specs.declared.fault.Fault.{Fault}
use Rattle.faults.specs.declared.fault.Layer.TheVariants.{Text}
use Rattle.faults.specs.declared.fault.Refusal.{Refusal}
use Rattle.faults.specs.declared.fault.Refusal.TheVariants.{Misfit, OutOfRange}
use Rattle.faults.specs.Refusals.{fault, layer_of, place_of}
use Rattle.text.specs.Format.{Outcome, got, refused, onward, Format, Verdict, fit, unfit, outside, Item, run, after, closed, item, then, line, dressed, Faithful}
use Rattle.text.specs.Staged.{Ruling, granted, denied, ruled, checked, recast, staged_read, staged, many}
use Rattle.text.specs.Places.{Begun, Located, ItemBegins, ThenBegins, StagedBegins, ManyBegins}
use Rattle.text.proofs.Laws.{Lawful, run_after}

closed_refused : {A : Type 0} (c : ℕ) (a : A) (l p : ℕ) (bs : List ℕ) (f : Fault) → closed c a l p bs ≡ refused f → place_of f.refusal ≡ p
closed_refused {A} c a l p [] f e = let k : fault (Misfit p) l ≡ f = cc in ap (λ f. place_of f.refusal) (sym k)
closed_refused {A} c a l p (x ∷ xs) f e = go (eqb x c) refl
  where
    go : (t : Bool) → eqb x c ≡ t → place_of f.refusal ≡ p
    go true h = let e' : got a (p + 1) xs ≡ refused f = rw h at e in let z : ◌≡◌ {A = ℕ} 0 1 = cc in absurd (omega arith)
    go false h = let e' : ◌≡◌ {A = Outcome A} (refused (fault (Misfit p) l)) (refused f) = rw h at e in let k : fault (Misfit p) l ≡ f = cc in ap (λ f. place_of f.refusal) (sym k)

pub located_item : {A : Type 0} (I : Item A) (c : ℕ) → Lawful I → Located (item I c) (ItemBegins I)
located_item {A} I c L = record { located = λ l p bs f e t. go l p bs f e (I.judge (run bs)) refl }
  where
    go : (l p : ℕ) (bs : List ℕ) (f : Fault) → (item I c).read l p bs ≡ refused f → (v : Verdict A) → I.judge (run bs) ≡ v → Begun bs p f (ItemBegins I)
    go l p bs f e (fit a) h =
        let e' : closed c a l (p + length (run bs)) (after bs) ≡ refused f = rw h at e in
        let w = L.back (run bs) a h in
        (run bs, (after bs, (sym (run_after bs), closed_refused c a l (p + length (run bs)) (after bs) f e', inr (a, (w.1, sym w.0)))))
    go l p bs f e unfit h =
        let e' : ◌≡◌ {A = Outcome A} (refused (fault (Misfit p) l)) (refused f) = rw h at e in
        let k : fault (Misfit p) l ≡ f = cc in
        ([], (bs, (refl, ap (λ f. place_of f.refusal) (sym k) ∙ sym (add-zero p), inl refl)))
    go l p bs f e outside h =
        let e' : ◌≡◌ {A = Outcome A} (refused (fault (OutOfRange p) l)) (refused f) = rw h at e in
        let k : fault (OutOfRange p) l ≡ f = cc in
        ([], (bs, (refl, ap (λ f. place_of f.refusal) (sym k) ∙ sym (add-zero p), inl refl)))

-- a whole value, and then a place in what follows it
further : {A : Type 0} (F : Format A) → Faithful F → (l p : ℕ) (bs : List ℕ) (a : A) (q : ℕ) (cs : List ℕ) → F.read l p bs ≡ got a q cs → (f : Fault) (B C : List ℕ → Type 0) → ((zs : List ℕ) → F.Fits a → B zs → C (F.text a ++ zs)) → Begun cs q f B → Begun bs p f C
further F g l p bs a q cs e f B C more s =
    let one = g.sound l p bs a q cs e in (
      F.text a ++ s.0,
      (
        s.1.0,
        (
          one.0 ∙ ap (λ u. F.text a ++ u) s.1.1.0 ∙ sym (append_assoc (F.text a) s.0 s.1.0),
          rw length-append (omega (arith, one.1, s.1.1.1)),
          more s.0 one.2 s.1.1.2,
        ),
      ),
    )

wider : (bs : List ℕ) (p : ℕ) (f : Fault) (B C : List ℕ → Type 0) → ((xs : List ℕ) → B xs → C xs) → Begun bs p f B → Begun bs p f C
wider bs p f B C m s = (s.0, (s.1.0, (s.1.1.0, s.1.1.1, m s.0 s.1.1.2)))

pub located_then : {A B : Type 0} (F : Format A) (G : A → Format B) (BF : List ℕ → Type 0) (BG : A → List ℕ → Type 0) → Faithful F → Located F BF → ((a : A) → Located (G a) (BG a)) → Located (then F G) (ThenBegins F BF BG)
located_then {A} {B} F G BF BG g u v = record { located = λ l p bs f e t. go l p bs f t (F.read l p bs) refl e }
  where
    go2 : (l p : ℕ) (bs : List ℕ) (f : Fault) → layer_of f.refusal ≡ Text → (a : A) (q : ℕ) (cs : List ℕ) → F.read l p bs ≡ got a q cs → (o : Outcome B) → (G a).read l q cs ≡ o → onward {B = A × B} o (λ b r ds. got (a, b) r ds) ≡ refused f → Begun bs p f (ThenBegins F BF BG)
    go2 l p bs f t a q cs k (got b r ds) j e = let z : ◌≡◌ {A = ℕ} 0 1 = cc in absurd (omega arith)
    go2 l p bs f t a q cs k (refused y) j e =
        let x : y ≡ f = cc in
        further F g l p bs a q cs k f (BG a) (ThenBegins F BF BG) (λ zs h b. inr (a, (zs, (h, refl, b)))) ((v a).located l q cs f (j ∙ ap refused x) t)

    go : (l p : ℕ) (bs : List ℕ) (f : Fault) → layer_of f.refusal ≡ Text → (o : Outcome A) → F.read l p bs ≡ o → onward {B = A × B} o (λ a q cs. onward ((G a).read l q cs) (λ b r ds. got (a, b) r ds)) ≡ refused f → Begun bs p f (ThenBegins F BF BG)
    go l p bs f t (got a q cs) k e = go2 l p bs f t a q cs k ((G a).read l q cs) refl e
    go l p bs f t (refused y) k e = let x : y ≡ f = cc in wider bs p f BF (ThenBegins F BF BG) (λ xs b. inl b) (u.located l p bs f (k ∙ ap refused x) t)

pub located_line : {A : Type 0} (F : Format A) (B : List ℕ → Type 0) → Located F B → Located (line F) B
located_line F B u = record { located = λ l p. u.located p p }

pub located_dressed : {A C : Type 0} (to : A → C) (from : C → A) (F : Format A) (B : List ℕ → Type 0) → Located F B → Located (dressed to from F) B
located_dressed {A} {C} to from F B u = record { located = λ l p bs f e t. go l p bs f t (F.read l p bs) refl e }
  where
    go : (l p : ℕ) (bs : List ℕ) (f : Fault) → layer_of f.refusal ≡ Text → (o : Outcome A) → F.read l p bs ≡ o → onward o (λ a q cs. got (to a) q cs) ≡ refused f → Begun bs p f B
    go l p bs f t (got a q cs) k e = let z : ◌≡◌ {A = ℕ} 0 1 = cc in absurd (omega arith)
    go l p bs f t (refused y) k e = let x : y ≡ f = cc in u.located l p bs f (k ∙ ap refused x) t

-- recast reads as dressed does
pub located_recast : {A C : Type 0} (to : A → C) (from : C → A) (F : Format A) (B : List ℕ → Type 0) → Located F B → Located (recast to from F) B
located_recast to from F B u = record { located = (located_dressed to from F B u).located }

-- a test that never speaks for the text
pub located_checked : {A : Type 0} (test : A → Ruling) (F : Format A) (B : List ℕ → Type 0) → ((a : A) (why : Refusal) → test a ≡ denied why → layer_of why ≡ Text → ⊥) → Located F B → Located (checked test F) B
located_checked {A} test F B never u = record { located = λ l p bs f e t. go l p bs f t (F.read l p bs) refl e }
  where
    rule : (l p : ℕ) (bs : List ℕ) (f : Fault) → layer_of f.refusal ≡ Text → (a : A) (q : ℕ) (cs : List ℕ) (r : Ruling) → test a ≡ r → ruled r l a q cs ≡ refused f → Begun bs p f B
    rule l p bs f t a q cs granted h e = let z : ◌≡◌ {A = ℕ} 0 1 = cc in absurd (omega arith)
    rule l p bs f t a q cs (denied why) h e =
        let x : fault why l ≡ f = cc in
        absurd (never a why h (ap (λ f. layer_of f.refusal) x ∙ t))

    go : (l p : ℕ) (bs : List ℕ) (f : Fault) → layer_of f.refusal ≡ Text → (o : Outcome A) → F.read l p bs ≡ o → onward o (λ a q cs. ruled (test a) l a q cs) ≡ refused f → Begun bs p f B
    go l p bs f t (got a q cs) k e = rule l p bs f t a q cs (test a) refl e
    go l p bs f t (refused y) k e = let x : y ≡ f = cc in u.located l p bs f (k ∙ ap refused x) t

module _ {S A : Type 0} (F : S → Format A) (step : S → A → S) (B : S → List ℕ → Type 0) (g : (s : S) → Faithful (F s)) (u : (s : S) → Located (F s) (B s)) where
  staged_more : (n : ℕ) (s : S) (l p : ℕ) (bs : List ℕ) (f : Fault) (a : A) (q : ℕ) (cs : List ℕ) → (F s).read l p bs ≡ got a q cs → (o : Outcome (List A)) → (o ≡ refused f → Begun cs q f (StagedBegins F step B n (step s a))) → onward o (λ ys r ds. got (a ∷ ys) r ds) ≡ refused f → Begun bs p f (StagedBegins F step B (suc n) s)
  staged_more n s l p bs f a q cs k (got ys r ds) ih e = let z : ◌≡◌ {A = ℕ} 0 1 = cc in absurd (omega arith)
  staged_more n s l p bs f a q cs k (refused y) ih e =
      let x : y ≡ f = cc in
      further (F s) (g s) l p bs a q cs k f (StagedBegins F step B n (step s a)) (StagedBegins F step B (suc n) s) (λ zs h b. inr (a, (zs, (h, refl, b)))) (ih (ap refused x))

  staged_first : (n : ℕ) (s : S) (l p : ℕ) (bs : List ℕ) (f : Fault) → layer_of f.refusal ≡ Text → (o : Outcome A) → (F s).read l p bs ≡ o → ((a : A) (q : ℕ) (cs : List ℕ) → staged_read F step (step s a) n l q cs ≡ refused f → Begun cs q f (StagedBegins F step B n (step s a))) → onward o (λ a q cs. onward (staged_read F step (step s a) n l q cs) (λ ys r ds. got (a ∷ ys) r ds)) ≡ refused f → Begun bs p f (StagedBegins F step B (suc n) s)
  staged_first n s l p bs f t (got a q cs) k ih e = staged_more n s l p bs f a q cs k (staged_read F step (step s a) n l q cs) (ih a q cs) e
  staged_first n s l p bs f t (refused y) k ih e = let x : y ≡ f = cc in wider bs p f (B s) (StagedBegins F step B (suc n) s) (λ xs b. inl b) ((u s).located l p bs f (k ∙ ap refused x) t)

  staged_located : (n : ℕ) (s : S) (l p : ℕ) (bs : List ℕ) (f : Fault) → staged_read F step s n l p bs ≡ refused f → layer_of f.refusal ≡ Text → Begun bs p f (StagedBegins F step B n s)
  staged_located zero s l p bs f e t = let z : ◌≡◌ {A = ℕ} 0 1 = cc in absurd (omega arith)
  staged_located (suc n) s l p bs f e t = staged_first n s l p bs f t ((F s).read l p bs) refl (λ a q cs h. staged_located n (step s a) l q cs f h t) e

  pub located_staged : (n : ℕ) (s : S) → Located (staged F step s n) (StagedBegins F step B n s)
  located_staged n s = record { located = λ l p bs f e t. staged_located n s l p bs f e t }

pub located_many : {A : Type 0} (F : ℕ → Format A) (B : ℕ → List ℕ → Type 0) → ((k : ℕ) → Faithful (F k)) → ((k : ℕ) → Located (F k) (B k)) → (n : ℕ) → Located (many F n) (ManyBegins F B n)
located_many F B g u n = located_staged (λ m. F (pred m)) (λ m _. pred m) (λ m. B (pred m)) (λ m. g (pred m)) (λ m. u (pred m)) n n
