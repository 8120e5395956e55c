-- Where a refusal by the text stands: after a beginning that fits.
use Rattle.std.specs.Prelude.{◌≡◌, ℕ, zero, suc, pred, ◌+◌, ◌⊎◌, List, [], ◌++◌, length}
use Rattle.faults.specs.declared.fault.Fault.{Fault}
use Rattle.faults.specs.declared.fault.Layer.TheVariants.{Text}
use Rattle.faults.specs.Refusals.{layer_of, place_of}
use Rattle.text.specs.Format.{Format, Item, refused}

-- a place in bs, which stand at p, that one of the beginnings B leads to
abbrev pub Begun : List ℕ → ℕ → Fault → (List ℕ → Type 0) → Type 0
Begun bs p f B = (xs : List ℕ) × ((ys : List ℕ) × ((bs ≡ xs ++ ys) × (place_of f.refusal ≡ p + length xs) × B xs))

-- whatever F refuses by the text has one of the beginnings B before the refusal's place
pub record Located {A : Type 0} (F : Format A) (B : List ℕ → Type 0) : Type 0 where
  pub located : (l p : ℕ) (bs : List ℕ) (f : Fault) → F.read l p bs ≡ refused f → layer_of f.refusal ≡ Text → Begun bs p f B

-- an item's beginnings: none of it, or all of it but the byte that ends it
abbrev pub ItemBegins : {A : Type 0} → Item A → List ℕ → Type 0
ItemBegins {A} I xs = (xs ≡ []) ⊎ ((a : A) × (I.Has a × (xs ≡ I.spell a)))

-- a beginning of the first, or a whole first and a beginning of the second
abbrev pub ThenBegins : {A : Type 0} → Format A → (List ℕ → Type 0) → (A → List ℕ → Type 0) → List ℕ → Type 0
ThenBegins {A} F BF BG xs = BF xs ⊎ ((a : A) × ((zs : List ℕ) × (F.Fits a × (xs ≡ F.text a ++ zs) × BG a zs)))

-- some whole values, each on what the earlier ones left, and a beginning of the next
abbrev pub StagedBegins : {S A : Type 0} → (S → Format A) → (S → A → S) → (S → List ℕ → Type 0) → ℕ → S → List ℕ → Type 0
StagedBegins F step B zero s xs = ⊥
StagedBegins {S} {A} F step B (suc n) s xs = B s xs ⊎ ((a : A) × ((zs : List ℕ) × ((F s).Fits a × (xs ≡ (F s).text a ++ zs) × StagedBegins F step B n (step s a) zs)))

-- some whole values, and a beginning of the next
abbrev pub ManyBegins : {A : Type 0} → (ℕ → Format A) → (ℕ → List ℕ → Type 0) → ℕ → List ℕ → Type 0
ManyBegins F B n = StagedBegins (λ m. F (pred m)) (λ m _. pred m) (λ m. B (pred m)) n n
