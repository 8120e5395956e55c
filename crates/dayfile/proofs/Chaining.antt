-- Texts written piece by piece: one piece after another, and a piece in each turn of a loop.
use Rattle.std.proofs.Common.{◌≡◌, ℕ, pred, ◌+◌, ◌-◌, ◌<◌, ◌≤◌, List, [], ◌∷◌, ◌++◌, map, length, get_or, drop, sym, refl, ap, ◌∙◌, arith}
use Rattle.std.specs.List.{flat_map}
use Rattle.std.proofs.lemmas.List.{drop_more, drop_all, get_or-map, length-map}
use Rattle.text.specs.Format.{Format}
use Rattle.text.specs.Staged.{staged_text}
use Rattle.text.specs.Pages.{printed}
use Rattle.text.proofs.Paging.{printed_on, printed_nothing}

-- one piece after another
pub ruleset writings = (printed_on, length-map)

-- a page in a turn of a loop: bs came on it, and cs are still to come
pub page_turn : (n : ℕ) (page next bs cs rest whole : List ℕ) → rest ≡ bs ++ cs → next ≡ printed n page bs → printed n page rest ≡ whole → printed n next cs ≡ whole
page_turn n page next bs cs rest whole e p d = ap (λ g. printed n g cs) p ∙ printed_on n page bs cs ∙ ap (printed n page) (sym e) ∙ d

pub page_end : (n : ℕ) (page rest whole : List ℕ) → rest ≡ [] → printed n page rest ≡ whole → page ≡ whole
page_end n page rest whole e d = sym (printed_nothing n page) ∙ ap (printed n page) (sym e) ∙ d

-- the text of the values from the i-th on, where F k writes one that k more follow
unfoldable pub rest : {A : Type 0} → (ℕ → Format A) → List A → ℕ → List ℕ
rest F xs i = staged_text (λ m. F (pred m)) (λ m _. pred m) (length xs - i) (drop i xs)

pub rest_all : {A : Type 0} (F : ℕ → Format A) (xs : List A) → rest F xs 0 ≡ staged_text (λ m. F (pred m)) (λ m _. pred m) (length xs) xs
unfolding rest
rest_all F xs = let e : length xs - 0 ≡ length xs = omega arith in rw e

pub rest_more : {A : Type 0} (F : ℕ → Format A) (xs : List A) (i : ℕ) (x : A) → i < length xs → get_or xs i x ≡ x → rest F xs i ≡ (F (length xs - (i + 1))).text x ++ rest F xs (i + 1)
unfolding rest
rest_more F xs i x h e =
    let n = length xs - (i + 1) in
    let p : pred (length xs - i) ≡ n = omega arith in
    ap (staged_text (λ m. F (pred m)) (λ m _. pred m) (length xs - i)) (drop_more xs i x h ∙ ap (λ y. y ∷ drop (i + 1) xs) e)
    ∙ ap (λ k. (F k).text x ++ staged_text (λ m. F (pred m)) (λ m _. pred m) k (drop (i + 1) xs)) p

pub rest_end : {A : Type 0} (F : ℕ → Format A) (xs : List A) (i : ℕ) → length xs ≤ i → rest F xs i ≡ []
unfolding rest
rest_end F xs i h = ap (staged_text (λ m. F (pred m)) (λ m _. pred m) (length xs - i)) (drop_all i xs h)

-- the same where the values are seen through f
pub viewed_more : {X A : Type 0} (f : X → A) (F : ℕ → Format A) (xs : List X) (i : ℕ) (x : X) → i < length xs → x ≡ get_or xs i x → rest F (map f xs) i ≡ (F (length xs - (i + 1))).text (f x) ++ rest F (map f xs) (i + 1)
viewed_more f F xs i x h e =
    let n = length-map xs f in
    rest_more F (map f xs) i (f x) (omega arith) (get_or-map f xs i x (f x) h ∙ ap f (sym e))
    ∙ ap (λ k. (F (k - (i + 1))).text (f x) ++ rest F (map f xs) (i + 1)) n

pub viewed_end : {X A : Type 0} (f : X → A) (F : ℕ → Format A) (xs : List X) (i : ℕ) → length xs ≤ i → rest F (map f xs) i ≡ []
viewed_end f F xs i h = let n = length-map xs f in rest_end F (map f xs) i (omega arith)

-- a sequence of which each value is written alike, whatever went before
pub staged_joined : {S A : Type 0} (F : S → Format A) (step : S → A → S) (text : A → List ℕ) → ((s : S) (a : A) → (F s).text a ≡ text a) → (s : S) (xs : List A) → staged_text F step s xs ≡ flat_map text xs
staged_joined F step text e s [] = refl
staged_joined F step text e s (a ∷ xs) = (λ i. e s a i ++ staged_joined F step text e (step s a) xs i)
