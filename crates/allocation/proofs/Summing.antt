-- Sums and maps over lists, and the loops that make them.
use Rattle.std.proofs.Common.{◌≡◌, ℕ, zero, suc, ◌+◌, ◌-◌, ◌<◌, ◌≤◌, Bool, true, false, cond, List, [], ◌∷◌, map, length, get_or, take, set, sum_by, fold, filter, refl, ap, arith}
use Rattle.std.specs.List.{ContainsAt as Has, AllByRecursion as All}
use Rattle.std.proofs.lemmas.List.Sums.{sum_by-cons}
use Rattle.std.proofs.lemmas.List.{take_more_set, map_more, take_all}

pub sum_same : {C : Type 0} (f g : C → ℕ) (xs : List C) → All (λ x. f x ≡ g x) xs → sum_by f xs ≡ sum_by g xs
sum_same f g [] h = refl
sum_same f g (x ∷ xs) h = omega (arith, sum_by-cons f x xs, sum_by-cons g x xs, h.0, sum_same f g xs h.1)

pub sum_le : {C : Type 0} (f g : C → ℕ) → ((z : C) → f z ≤ g z) → (xs : List C) → sum_by f xs ≤ sum_by g xs
sum_le f g below [] = omega arith
sum_le f g below (x ∷ xs) = omega (arith, sum_by-cons f x xs, sum_by-cons g x xs, below x, sum_le f g below xs)

-- f falls short of g by a at the element y, and is nowhere above g
pub sum_gap : {C : Type 0} (f g : C → ℕ) (a : ℕ) (y : C) → ((z : C) → f z ≤ g z) → f y + a ≤ g y → (xs : List C) (k : ℕ) → k < length xs → ((d : C) → get_or xs k d ≡ y) → sum_by f xs + a ≤ sum_by g xs
sum_gap f g a y below here [] k h at = omega arith
sum_gap f g a y below here (z ∷ zs) zero h at =
    let more : sum_by f zs ≤ sum_by g zs = sum_le f g below zs in
    let e : z ≡ y = at z in
    let p : f z ≡ f y = ap f e in
    let q : g z ≡ g y = ap g e in
    omega (arith, sum_by-cons f z zs, sum_by-cons g z zs)
sum_gap f g a y below here (z ∷ zs) (suc k) h at =
    omega (arith, sum_by-cons f z zs, sum_by-cons g z zs, below z, sum_gap f g a y below here zs k (omega arith) at)

pub sum_over : {X Y : Type 0} (f : Y → ℕ) (g : X → Y) (xs : List X) → sum_by f (map g xs) ≡ sum_by (λ x. f (g x)) xs
sum_over f g [] = refl
sum_over f g (x ∷ xs) = omega (arith, sum_by-cons f (g x) (map g xs), sum_by-cons (λ x. f (g x)) x xs, sum_over f g xs)

pub sum_zero : {X : Type 0} (xs : List X) → sum_by (λ _. 0) xs ≡ 0
sum_zero [] = refl
sum_zero (x ∷ xs) = omega (arith, sum_by-cons (λ _. 0) x xs, sum_zero xs)

pub map_same : {X Y : Type 0} (f g : X → Y) (xs : List X) → ((x : X) → Has xs x → f x ≡ g x) → map f xs ≡ map g xs
map_same f g [] same = refl
map_same f g (x ∷ xs) same = rw (same x (zero, omega arith, λ d. refl), map_same f g xs (λ y h. same y (suc h.0, omega (arith, h.1), h.2)))

pub map_over : {X Y Z : Type 0} (f : Y → Z) (h : X → Z) (g : X → Y) → ((x : X) → f (g x) ≡ h x) → (xs : List X) → map f (map g xs) ≡ map h xs
map_over f h g same [] = refl
map_over f h g same (x ∷ xs) = rw (same x, map_over f h g same xs)

-- a sum leaves out what adds nothing
pub sum_kept : {C : Type 0} (p : C → Bool) (f : C → ℕ) → ((x : C) → p x ≡ false → f x ≡ 0) → (xs : List C) → sum_by f (filter p xs) ≡ sum_by f xs
sum_kept p f nothing [] = refl
sum_kept {C} p f nothing (x ∷ xs) = go (sum_kept p f nothing xs) (p x) refl
  where
    go : sum_by f (filter p xs) ≡ sum_by f xs → (r : Bool) → p x ≡ r → sum_by f (cond r (x ∷ filter p xs) (filter p xs)) ≡ sum_by f (x ∷ xs)
    go more true e = omega (arith, sum_by-cons f x (filter p xs), sum_by-cons f x xs)
    go more false e = omega (arith, nothing x e, sum_by-cons f x xs)

pub kept_all : {C : Type 0} (p : C → Bool) (P : C → Type 0) (xs : List C) → ((j : ℕ) (d : C) → j < length xs → p (get_or xs j d) ≡ true → P (get_or xs j d)) → All P (filter p xs)
kept_all p P [] h = tt
kept_all {C} p P (x ∷ xs) h = go (kept_all p P xs (λ j d l. h (suc j) d (omega arith))) (p x) refl
  where
    go : All P (filter p xs) → (r : Bool) → p x ≡ r → All P (cond r (x ∷ filter p xs) (filter p xs))
    go rest true e = (h zero x (omega arith) e, rest)
    go rest false e = rest

-- taking f of each element off a volume takes their sum off
pub left_all : {X : Type 0} (f : X → ℕ) (volume : ℕ) (xs : List X) → fold (λ left x. left - f x) volume xs ≡ volume - sum_by f xs
left_all f volume [] = omega arith
left_all f volume (x ∷ xs) = omega (arith, left_all f (volume - f x) xs, sum_by-cons f x xs)

-- the step and the end of a loop that writes f of each element
pub mapped_more : {X : Type 0} (f : X → ℕ) (xs : List X) (ys : List ℕ) (i : ℕ) (x : X) (y : ℕ) → i < length xs → length ys ≡ length xs → x ≡ get_or xs i x → y ≡ f x → take i ys ≡ map f (take i xs) → take (i + 1) (set ys i y) ≡ map f (take (i + 1) xs)
mapped_more f xs ys i x y h long read is so =
    let more = take_more_set ys i y (omega arith) in
    let up = map_more f xs i x h in
    let here : f x ≡ f (get_or xs i x) = ap f read in
    cc

pub mapped_all : {X : Type 0} (f : X → ℕ) (xs : List X) (ys : List ℕ) (i : ℕ) → length xs ≤ i → length ys ≡ length xs → take i ys ≡ map f (take i xs) → ys ≡ map f xs
mapped_all f xs ys i h long so =
    let a = take_all i xs h in
    let b = take_all i ys (omega arith) in
    cc
