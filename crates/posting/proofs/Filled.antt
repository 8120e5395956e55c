-- The post fills of an hour as a sum over the fills of that hour.
use Rattle.std.proofs.Common.{◌≡◌, ℕ, ◌+◌, Bool, true, false, cond, List, [], ◌∷◌, refl, sym, ap, ◌∙◌, arith, filter, sum_by}
use Rattle.std.specs.Prelude.{◌==◌}
use Rattle.std.proofs.lemmas.List.Sums.{sum_by-cons}
use Rattle.posting.specs.declared.fills.Fill.{Fill}
use Rattle.posting.specs.Posts.{filled_in}

abbrev pub volume_of : Fill → ℕ
volume_of f = f.volume

abbrev pub within : ℕ → Fill → Bool
within hour f = f.hour == hour

-- one fill more, whether or not it is of the hour
one_more : (b : Bool) (f : Fill) (fs : List Fill) → cond b f.volume 0 + sum_by volume_of fs ≡ sum_by volume_of (cond b (f ∷ fs) fs)
one_more true f fs = sym (sum_by-cons volume_of f fs)
one_more false f fs = omega arith

pub filled_sum : (hour : ℕ) (fs : List Fill) → filled_in hour fs ≡ sum_by volume_of (filter (within hour) fs)
unfolding filled_in
filled_sum hour [] = refl
filled_sum hour (f ∷ fs) = ap (λ n. cond (f.hour == hour) f.volume 0 + n) (filled_sum hour fs) ∙ one_more (f.hour == hour) f (filter (within hour) fs)
