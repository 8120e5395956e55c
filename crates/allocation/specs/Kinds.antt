-- What sharing a volume out among three kinds of claims comes to, each kind served before the next.
use Rattle.std.specs.Prelude.{◌≡◌, ℕ, ◌+◌, ◌-◌, ◌≤◌, List, ◌++◌, map, sum_by, sum}
use Rattle.allocation.specs.Joint.{Kind, and_then, joint}
use Rattle.allocation.specs.Shares.{shares_of, Distinct, Shared}

-- sharing out over all claims of a kind
abbrev pub SharedKind : {C : Type 0} → Kind C → ℕ → List C → List ℕ → Type 0
SharedKind k = Shared k.asks k.stamp k.before

module _ {A B C : Type 0} (a : Kind A) (b : Kind B) (c : Kind C) (volume : ℕ) (xs : List A) (ys : List B) (zs : List C) where
  -- each kind out of what the kinds before it leave
  pub record ServedInTurn (to-xs to-ys to-zs : List ℕ) : Type 0 where
    pub first : to-xs ≡ shares_of a.asks a.before volume xs
    pub second : to-ys ≡ shares_of b.asks b.before (volume - sum_by a.asks xs) ys
    pub third : to-zs ≡ shares_of c.asks c.before (volume - sum_by a.asks xs - sum_by b.asks ys) zs

  pub record KindsShared (to-xs to-ys to-zs : List ℕ) : Type 0 where
    -- the one share rule over all claims: each share, their sum, the order of serving across kinds, all full where it suffices
    pub together : SharedKind (and_then a (and_then b c)) volume (joint xs (joint ys zs)) (to-xs ++ (to-ys ++ to-zs))
    -- with different stamps, and as much asked as the volume, the shares add up to the volume
    pub balance : Distinct (and_then a (and_then b c)).asks (and_then a (and_then b c)).stamp (joint xs (joint ys zs)) → volume ≤ sum_by a.asks xs + (sum_by b.asks ys + sum_by c.asks zs) → sum to-xs + (sum to-ys + sum to-zs) ≡ volume
    -- a first kind that fits is served whole
    pub fits : sum_by a.asks xs ≤ volume → to-xs ≡ map a.asks xs
    -- where the volume suffices for all, each claim has all it asks for
    pub full : sum_by a.asks xs + (sum_by b.asks ys + sum_by c.asks zs) ≤ volume → (to-xs ≡ map a.asks xs) × (to-ys ≡ map b.asks ys) × (to-zs ≡ map c.asks zs)
    pub in_turn : ServedInTurn to-xs to-ys to-zs
