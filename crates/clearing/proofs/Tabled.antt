-- Loops that write every place of a table: f of each index, f of each row, or the new value where the old one does not serve.
use Rattle.std.proofs.Common.{◌≡◌, ℕ, zero, suc, ◌+◌, ◌<◌, ◌≤◌, List, [], ◌∷◌, ◌++◌, map, length, get_or, take, set, sym, refl, ap, ◌∙◌, subst, inl, inr, arith}
use denote.Param.Members.{Mut, Called}
use Rattle.std.specs.Array.{IsFromFnResult, IsFromFnResultFrom}
use Rattle.std.specs.List.{range_with_len}
use Rattle.std.proofs.lemmas.Bool.{cases_eq}
use Rattle.std.proofs.lemmas.List.{length-map, get_or-map, length-set, take_more_set, take_all, get_or-set_same, get_or-set_other}
use Rattle.std.proofs.lemmas.List.FromFn.{map-range_with_len_more, length-map-range_with_len, get_or-map-range_with_len, fill_by_all}
use Rattle.clearing.specs.Clearing.{tabled}

pub tabled_length : {A : Type 0} (f : ℕ → A) (n : ℕ) → length (tabled f n) ≡ n
unfolding tabled
tabled_length f n = length-map-range_with_len f 0 n

pub tabled_at : {A : Type 0} (f : ℕ → A) (n h : ℕ) (d : A) → h < n → get_or (tabled f n) h d ≡ f h
unfolding tabled
tabled_at f n h d l = get_or-map-range_with_len f 0 n h h d l (omega arith)

pub tabled_by : {A : Type 0} (f : ℕ → A) (xs : List A) (n : ℕ) (d : A) → length xs ≡ n → ((k : ℕ) → k < n → get_or xs k d ≡ f k) → xs ≡ tabled f n
unfolding tabled
tabled_by f xs n d long at = fill_by_all f xs n d long at

-- an array whose places come from calls of a closure that stays the same
made_at : {F A : Type 0} (g : Mut F (ℕ × Unit {0}) A) (f : F) (h : ℕ → A) (m : ℕ) → ((k : ℕ) (y : A) (q : F) → k < m → Called g f (k, tt) y q → (y ≡ h k) × (q ≡ f)) → (ys : List A) (i n : ℕ) (p : F) → i + n ≤ m → p ≡ f → IsFromFnResultFrom g p ys i n → (k : ℕ) (d : A) → i ≤ k → k < i + n → get_or ys k d ≡ h k
made_at g f h m same ys i zero p fits e r k d low high = absurd (omega arith)
made_at {F} {A} g f h m same ys i (suc n) p fits e r k d low high =
    let here : (r.1 ≡ h i) × (r.0 ≡ f) = same i r.1 r.0 (omega arith) (subst (λ (x : F). Called g x (i, tt) r.1 r.0) e r.3) in
    elim (cases_eq k i) [
      | inl s ↦ ap (λ j. get_or ys j d) s ∙ r.2.1 d ∙ here.0 ∙ ap h (sym s)
      | inr ne ↦ made_at g f h m same ys (i + 1) n r.0 (omega arith) here.1 r.4 k d (omega (arith, ne)) (omega arith)
    ]

pub made_by : {F A : Type 0} (g : Mut F (ℕ × Unit {0}) A) (f : F) (h : ℕ → A) (n : ℕ) (d : A) → ((k : ℕ) (y : A) (q : F) → k < n → Called g f (k, tt) y q → (y ≡ h k) × (q ≡ f)) → (ys : List A) → IsFromFnResult g f ys n → ys ≡ tabled h n
made_by g f h n d same ys r = tabled_by h ys n d r.long (λ k l. made_at g f h n same ys 0 n f (omega arith) refl r.each k d (omega arith) (omega arith))

-- f of each row is the table of f at each place
pub map_by_place : {X Y : Type 0} (f : X → Y) (d : X) (e : Y) (xs : List X) → map f xs ≡ tabled (λ k. f (get_or xs k d)) (length xs)
map_by_place f d e xs = tabled_by (λ k. f (get_or xs k d)) (map f xs) (length xs) e (length-map xs f) (λ k l. get_or-map f xs k d e l)

abbrev pub Filled : {A : Type 0} → ℕ → (ℕ → A) → List A → ℕ → Type 0
Filled n f xs i = (i ≤ n) × (length xs ≡ n) × (take i xs ≡ tabled f i)

pub filled_none : {A : Type 0} (n : ℕ) (f : ℕ → A) (xs : List A) → length xs ≡ n → Filled n f xs 0
unfolding tabled
filled_none n f xs h = (omega arith, h, refl)

pub filled_more : {A : Type 0} (n : ℕ) (f : ℕ → A) (xs : List A) (i : ℕ) (y : A) → i < n → y ≡ f i → Filled n f xs i → Filled n f (set xs i y) (i + 1)
unfolding tabled
filled_more n f xs i y h e p =
    (omega arith, length-set xs i y ∙ p.1, take_more_set xs i y (omega (arith, p.1)) ∙ ap (λ l. l ++ y ∷ []) p.2 ∙ ap (λ v. map f (range_with_len 0 i) ++ v ∷ []) e ∙ sym (map-range_with_len_more f 0 i i (omega arith)))

pub filled_all : {A : Type 0} (n : ℕ) (f : ℕ → A) (xs : List A) (i : ℕ) → n ≤ i → Filled n f xs i → xs ≡ tabled f n
filled_all n f xs i h p = sym (take_all i xs (omega (arith, p.1))) ∙ p.2 ∙ ap (tabled f) (omega (arith, p.0))

pub map_twice : {X Y Z : Type 0} (f : Y → Z) (g : X → Y) (xs : List X) → map (λ x. f (g x)) xs ≡ map f (map g xs)
map_twice f g [] = refl
map_twice f g (x ∷ xs) = ap (λ l. f (g x) ∷ l) (map_twice f g xs)

-- the new value at some places, where the old one is not the new one already
abbrev pub Mixed : {A : Type 0} → ℕ → (ℕ → A) → (ℕ → A) → A → List A → ℕ → Type 0
Mixed n new old d xs i = (length xs ≡ n) × ((k : ℕ) → k < i → get_or xs k d ≡ new k) × ((k : ℕ) → i ≤ k → k < n → get_or xs k d ≡ old k)

pub mixed_none : {A : Type 0} (n : ℕ) (new old : ℕ → A) (d : A) (xs : List A) → xs ≡ tabled old n → Mixed n new old d xs 0
mixed_none n new old d xs e =
    (ap length e ∙ tabled_length old n, (λ k l. absurd (omega arith)), λ k l m. ap (λ l. get_or l k d) e ∙ tabled_at old n k d m)

pub mixed_put : {A : Type 0} (n : ℕ) (new old : ℕ → A) (d : A) (xs : List A) (i : ℕ) (y : A) → i < n → y ≡ new i → Mixed n new old d xs i → Mixed n new old d (set xs i y) (i + 1)
mixed_put n new old d xs i y h e m = (
  length-set xs i y ∙ m.0,
  (λ k l. elim (cases_eq k i) [
    | inl s ↦ ap (λ j. get_or (set xs i y) j d) s ∙ get_or-set_same xs i y d (omega (arith, m.0)) ∙ e ∙ ap new (sym s)
    | inr ne ↦ get_or-set_other xs i k y d ne ∙ m.1 k (omega (arith, ne))
  ]),
  λ k l o. get_or-set_other xs i k y d (λ s. absurd (omega (arith, s))) ∙ m.2 k (omega arith) o,
)

pub mixed_all : {A : Type 0} (n : ℕ) (new old : ℕ → A) (d : A) (xs : List A) (i : ℕ) → n ≤ i → Mixed n new old d xs i → xs ≡ tabled new n
mixed_all n new old d xs i h m = tabled_by new xs n d m.0 (λ k l. m.1 k (omega arith))
