-- Post fills stay within the surplus and stand on the side opposite to it.
use Rattle.std.proofs.Common.{◌≡◌, ℕ, ◌+◌, ◌-◌, ◌≤◌, min, Bool, true, false, cond, ◌&&◌, ◌||◌, eqb, List, [], ◌∷◌, ◌++◌, Ok, Err, Result, sym, refl, ap, ◌∙◌, subst, append-nil, add_assoc, arith}
use Rattle.std.specs.List.{AllByRecursion}
use Rattle.std.proofs.ByRecursion.{All-push}
use Rattle.std.proofs.lemmas.Bool.{eqb-true}
use Rattle.faults.specs.declared.fault.Fault.{Fault}
use Rattle.curves.specs.declared.sides.Side.{Side}
use Rattle.curves.specs.declared.sides.Side.TheVariants.{Buy, Sell}
use Rattle.book.specs.Shown.{same_side}
use Rattle.calls.specs.declared.posts.PostOrder.{PostOrder}
use Rattle.calls.specs.Moves.{Move, entering, changing, withdrawing, fixing, recalling, confirming, posting, finishing, overfull}
use Rattle.clearing.specs.declared.results.HourResult.{HourResult}
use Rattle.clearing.specs.Results.{result_at}
use Rattle.posting.specs.declared.fills.Fill.{Fill}
use Rattle.posting.specs.Posts.{taken_by, filled_in, filled_on, left_in, fill_with}
use Rattle.day.specs.Answers.{answer}
use Rattle.history.specs.Events.{Event, event}
use Rattle.history.specs.Told.{phase_told, results_told, fill_by, posts_told, state_told, Answered}
use Rattle.history.proofs.Granting.{Grants, grants, never}
use Rattle.history.proofs.Steps.{none_filled}
use Rattle.history.proofs.Phased.{no_way, open_before, fixed_before, Phased, phased}

filled_push : (hour : ℕ) (fs : List Fill) (f : Fill) → filled_in hour (fs ++ (f ∷ [])) ≡ filled_in hour fs + taken_by hour f
unfolding filled_in
filled_push hour [] f = omega arith
filled_push hour (g ∷ fs) f = ap (λ n. taken_by hour g + n) (filled_push hour fs f) ∙ sym (add_assoc (taken_by hour g) (filled_in hour fs) (taken_by hour f))

none_in : (hour : ℕ) → filled_in hour [] ≡ 0
unfolding filled_in
none_in hour = refl

-- what an order takes is still there
fits : (t : Bool) (v volume surplus taken : ℕ) → v ≡ min volume (surplus - taken) → taken ≤ surplus → taken + cond t v 0 ≤ surplus
fits true v volume surplus taken e l = omega arith
fits false v volume surplus taken e l = omega arith

abbrev pub Facing : List HourResult → Fill → Type 0
Facing rs f = same_side f.side (result_at rs (f.hour - 1)).side ≡ false

or_parts : (t u : Bool) → (t || u) ≡ false → t ≡ false
or_parts true u e = e
or_parts false u e = refl

module _ (refs sets : List ℕ) where
  pub record Fitting (h : List Event) : Type 0 where
    pub within : (hour : ℕ) → filled_in hour (posts_told h) ≤ (result_at (results_told refs sets h) (hour - 1)).surplus
    pub opposite : AllByRecursion (Facing (results_told refs sets h)) (posts_told h)

  -- a list without fills, and one that stays
  none_fit : (rs : List HourResult) (fs : List Fill) → fs ≡ [] → ((hour : ℕ) → filled_in hour fs ≤ (result_at rs (hour - 1)).surplus) × AllByRecursion (Facing rs) fs
  none_fit rs fs e =
      (λ hour. omega (arith, ap (filled_in hour) e, none_in hour), subst (AllByRecursion (Facing rs)) (sym e) tt)

  same_fit : (rs : List HourResult) (fs gs : List Fill) → fs ≡ gs → ((hour : ℕ) → filled_in hour fs ≤ (result_at rs (hour - 1)).surplus) → AllByRecursion (Facing rs) fs → ((hour : ℕ) → filled_in hour gs ≤ (result_at rs (hour - 1)).surplus) × AllByRecursion (Facing rs) gs
  same_fit rs fs gs e w o = (λ hour. omega (arith, w hour, ap (filled_in hour) e), subst (AllByRecursion (Facing rs)) e o)

  abbrev Fits : List HourResult → List Fill → Type 0
  Fits rs fs = ((hour : ℕ) → filled_in hour fs ≤ (result_at rs (hour - 1)).surplus) × AllByRecursion (Facing rs) fs

  fitting : (h : List Event) → Fits (results_told refs sets h) (posts_told h) → Fitting h
  fitting h p = record { within = p.0; opposite = p.1 }

  kept_fit : (h : List Event) → Fitting h → Fits (results_told refs sets h) (posts_told h ++ [])
  kept_fit h s = same_fit (results_told refs sets h) (posts_told h) (posts_told h ++ []) (sym (append-nil (posts_told h))) s.within s.opposite

  posted_fit : (h : List Event) (o : PostOrder) (v : ℕ) → Grants (state_told refs sets h) (posting o) v → Fitting h → Fits (results_told refs sets h) (posts_told h ++ (fill_with o v ∷ []))
  posted_fit h o v g s =
      let rs = results_told refs sets h in
      let fs = posts_told h in (
        (λ hour. at hour (eqb o.hour hour) refl),
        All-push (Facing rs) fs (fill_with o v) s.opposite (or_parts (same_side o.side (result_at rs (o.hour - 1)).side) (eqb (left_in rs fs o.hour) 0) g.further.1.0),
      )
    where
      at : (hour : ℕ) (t : Bool) → eqb o.hour hour ≡ t → filled_in hour (posts_told h ++ (fill_with o v ∷ [])) ≤ (result_at (results_told refs sets h) (hour - 1)).surplus
      at hour true e =
          let here : o.hour ≡ hour = eqb-true o.hour hour e in
          let val : v ≡ min o.volume ((result_at (results_told refs sets h) (hour - 1)).surplus - filled_in hour (posts_told h)) = g.value ∙ ap (λ n. min o.volume (left_in (results_told refs sets h) (posts_told h) n)) here in
          let push : filled_in hour (posts_told h ++ (fill_with o v ∷ [])) ≡ filled_in hour (posts_told h) + cond true v 0 = filled_push hour (posts_told h) (fill_with o v) ∙ ap (λ t. filled_in hour (posts_told h) + cond t v 0) e in
          omega (arith, push, fits true v o.volume (result_at (results_told refs sets h) (hour - 1)).surplus (filled_in hour (posts_told h)) val (s.within hour))
      at hour false e =
          let push : filled_in hour (posts_told h ++ (fill_with o v ∷ [])) ≡ filled_in hour (posts_told h) + cond false v 0 = filled_push hour (posts_told h) (fill_with o v) ∙ ap (λ t. filled_in hour (posts_told h) + cond t v 0) e in
          omega (arith, push, s.within hour)

  granted_fit : (h : List Event) (m : Move) (v : ℕ) → Grants (state_told refs sets h) m v → Phased refs sets h → Fitting h → Fitting (event m (Ok v) ∷ h)
  granted_fit h (entering a) v g p s = fitting (event (entering a) (Ok v) ∷ h) (kept_fit h s)
  granted_fit h (changing a) v g p s = fitting (event (changing a) (Ok v) ∷ h) (kept_fit h s)
  granted_fit h (withdrawing r m) v g p s = fitting (event (withdrawing r m) (Ok v) ∷ h) (kept_fit h s)
  granted_fit h fixing v g p s = fitting (event fixing (Ok v) ∷ h) (none_fit (results_told refs sets (event fixing (Ok v) ∷ h)) (posts_told h ++ []) (append-nil (posts_told h) ∙ p.unposted (open_before (phase_told h) g.offered)))
  granted_fit h recalling v g p s = fitting (event recalling (Ok v) ∷ h) (none_fit (results_told refs sets (event recalling (Ok v) ∷ h)) (posts_told h ++ []) (append-nil (posts_told h) ∙ p.unposted (fixed_before (phase_told h) g.offered).0))
  granted_fit h confirming v g p s = fitting (event confirming (Ok v) ∷ h) (kept_fit h s)
  granted_fit h (posting o) v g p s = fitting (event (posting o) (Ok v) ∷ h) (posted_fit h o v g s)
  granted_fit h finishing v g p s = fitting (event finishing (Ok v) ∷ h) (kept_fit h s)
  granted_fit h overfull v g p s = never (sym g.alone)

  step_fit : (h : List Event) (m : Move) (r : Result ℕ Fault) → r ≡ answer (state_told refs sets h) m → Phased refs sets h → Fitting h → Fitting (event m r ∷ h)
  step_fit h m (Ok v) e p s = granted_fit h m v (grants (state_told refs sets h) m v e) p s
  step_fit h m (Err f) e p s = fitting (event m (Err f) ∷ h) (same_fit (results_told refs sets h) (posts_told h) (posts_told h ++ fill_by m (Err f)) (sym (append-nil (posts_told h)) ∙ ap (λ l. posts_told h ++ l) (sym (none_filled m f))) s.within s.opposite)

  pub fits_told : (h : List Event) → Answered refs sets h → Fitting h
  fits_told [] a = fitting [] (none_fit (results_told refs sets []) [] refl)
  fits_told (e ∷ h) a = step_fit h e.move e.answer a.0 (phased refs sets h a.1) (fits_told h a.1)

-- the fills of an hour stand on one side
on_cond : (t : Bool) (s : Side) (r : Side) (side : Side) (v : ℕ) → (t ≡ true → same_side s r ≡ false) → same_side side r ≡ true → cond (t && same_side s side) v 0 ≡ 0
on_cond false s r side v f e = refl
on_cond true Buy Buy side v f e = no_way (f refl)
on_cond true Buy Sell Buy v f e = no_way (sym e)
on_cond true Buy Sell Sell v f e = refl
on_cond true Sell Buy Buy v f e = refl
on_cond true Sell Buy Sell v f e = no_way (sym e)
on_cond true Sell Sell side v f e = no_way (f refl)

off_cond : (t : Bool) (s : Side) (r : Side) (side : Side) (v : ℕ) → (t ≡ true → same_side s r ≡ false) → same_side side r ≡ false → cond (t && same_side s side) v 0 ≡ cond t v 0
off_cond false s r side v f e = refl
off_cond true Buy Buy side v f e = no_way (f refl)
off_cond true Buy Sell Buy v f e = refl
off_cond true Buy Sell Sell v f e = no_way e
off_cond true Sell Buy Buy v f e = no_way e
off_cond true Sell Buy Sell v f e = refl
off_cond true Sell Sell side v f e = no_way (f refl)

facing_at : (rs : List HourResult) (f : Fill) (h : ℕ) → Facing rs f → eqb f.hour (h + 1) ≡ true → same_side f.side (result_at rs h).side ≡ false
facing_at rs f h o e =
    let back : f.hour - 1 ≡ h = omega (arith, eqb-true f.hour (h + 1) e) in
    ap (λ k. same_side f.side (result_at rs k).side) (sym back) ∙ o

pub filled_on_side : (rs : List HourResult) (h : ℕ) (side : Side) (fs : List Fill) → AllByRecursion (Facing rs) fs → same_side side (result_at rs h).side ≡ true → filled_on side (h + 1) fs ≡ 0
unfolding filled_on
filled_on_side rs h side [] a e = refl
filled_on_side rs h side (f ∷ fs) a e = omega (arith, on_cond (eqb f.hour (h + 1)) f.side (result_at rs h).side side f.volume (facing_at rs f h a.0) e, filled_on_side rs h side fs a.1 e)

pub filled_off : (rs : List HourResult) (h : ℕ) (side : Side) (fs : List Fill) → AllByRecursion (Facing rs) fs → same_side side (result_at rs h).side ≡ false → filled_on side (h + 1) fs ≡ filled_in (h + 1) fs
unfolding filled_on filled_in
filled_off rs h side [] a e = refl
filled_off rs h side (f ∷ fs) a e = omega (arith, off_cond (eqb f.hour (h + 1)) f.side (result_at rs h).side side f.volume (facing_at rs f h a.0) e, filled_off rs h side fs a.1 e)
