-- What the verdict grants, a line can say; and a day that is written is read back.
use Rattle.std.proofs.Common.{◌≡◌, ℕ, pred, ◌+◌, ◌≤◌, Bool, true, false, cond, ◌||◌, ltb, List, [], ◌∷◌, ◌++◌, length, Ok, Err, Result, sym, refl, ap, ◌∙◌, arith, Option}
use Rattle.std.proofs.lemmas.Bool.{or_parts, ltb-false}
use Rattle.faults.specs.declared.fault.Fault.{Fault}
use Rattle.faults.specs.Answers.{out_of_range}
use Rattle.curves.specs.declared.sides.Side.{Side}
use Rattle.curves.specs.declared.sides.Side.TheVariants.{Buy, Sell}
use Rattle.curves.specs.Points.{Point}
use Rattle.curves.specs.Ranges.{outside, bad_tick, bad_volume, bad_count}
use Rattle.curves.specs.Sequences.{bad_point, wild, paired, pairs_verdict}
use Rattle.curves.specs.Offers.{Form, flat, stairs, slopes}
use Rattle.book.specs.declared.entries.Entry.{Entry}
use Rattle.book.specs.Bids.{Asked, Place}
use Rattle.book.specs.Verdicts.{bad_row, bad_member, bad_product, bad_number, form_verdict, block_verdict, and_then, verdict}
use Rattle.book.specs.Views.{places, sets_of}
use Rattle.text.specs.Staged.{Stages}
use Rattle.dayfile.specs.declared.opening.Opening.{Opening}
use Rattle.dayfile.specs.Kinds.{side_text}
use Rattle.dayfile.specs.Lines.{point_text, point_on, pairs_text, form_text, order_text}
use Rattle.dayfile.specs.Day.{DayText, day_text, count_text, tick_on, set_line, hours_text, blocks_text, orders_text, order_line, booked, empty_book}
use Rattle.dayfile.specs.Views.{tick_values}
use Rattle.dayfile.specs.Sequence.{sequence}
use Rattle.dayfile.specs.Entered.{day_of, table_of, Proper, LoadsItsText, Returns}
use Rattle.dayfile.specs.Written.{day_in}
use Rattle.dayfile.proofs.Described.{faithful_day}
use Rattle.dayfile.proofs.Refilled.{stands, sequence_enters, sequence_length}
use Rattle.dayfile.proofs.Bounded.{Within, ticks_within, sets_within, sets_few}
use Rattle.dayfile.proofs.Worded.{ticks_length}

in_range : (low high n : ℕ) → outside low high n ≡ false → (low ≤ n) × (n ≤ high)
in_range low high n e = let p = or_parts (ltb n low) (ltb high n) e in (ltb-false n low p.0, ltb-false high n p.1)

-- a test that did not refuse
past : (t : Bool) (f : Fault) (r : Result (Unit {0}) Fault) → cond t (Err f) r ≡ Ok tt → (t ≡ false) × (r ≡ Ok tt)
past true f r e = let z : ◌≡◌ {A = ℕ} 0 1 = cc in absurd (omega arith)
past false f r e = (refl, e)

first_past : (v w : Result (Unit {0}) Fault) → and_then v w ≡ Ok tt → v ≡ Ok tt
first_past (Ok tt) w e = refl
first_past (Err f) w e = let z : ◌≡◌ {A = ℕ} 0 1 = cc in absurd (omega arith)

points_fit : (m : ℕ) (ps : List Point) → wild ps ≡ false → Stages (λ m. point_on (pred m)) (λ m _. pred m) m ps
unfolding wild point_text
points_fit m [] e = tt
points_fit m (p ∷ ps) e = go (bad_point p) refl e (points_fit (pred m) ps)
  where
    go : (t : Bool) → bad_point p ≡ t → cond t true (wild ps) ≡ false → (wild ps ≡ false → Stages (λ m. point_on (pred m)) (λ m _. pred m) (pred m) ps) → Stages (λ m. point_on (pred m)) (λ m _. pred m) m (p ∷ ps)
    go true b k ih = let z : ◌≡◌ {A = ℕ} 0 1 = cc in absurd (omega arith)
    go false b k ih = let q = or_parts (bad_tick p.tick) (bad_volume p.volume) b in ((in_range 1 300000 p.tick q.0, in_range 1 100000 p.volume q.1), ih k)

pairs_fit : (side : Side) (ps : List Point) → pairs_verdict side ps ≡ Ok tt → pairs_text.Fits ps
unfolding pairs_verdict pairs_text
pairs_fit side ps e =
    let a = past (bad_count (length ps)) out_of_range (cond (wild ps) (Err out_of_range) (paired side 2 ps)) e in
    let b = past (wild ps) out_of_range (paired side 2 ps) a.1 in
    (in_range 1 8 (length ps) a.0, (refl, points_fit (length ps) ps b.0))

form_fits : (side : Side) (f : Form) → form_verdict side f ≡ Ok tt → form_text.Fits f
unfolding form_text
form_fits side (flat v) e = ((refl, (in_range 1 100000 v (past (bad_volume v) out_of_range (Ok tt) e).0, refl)), refl)
form_fits side (stairs ps) e = ((refl, (pairs_fit side ps e, refl)), refl)
form_fits side (slopes ps) e = ((refl, (pairs_fit side ps e, refl)), refl)

side_fits : (s : Side) → side_text.Fits s
side_fits Buy = refl
side_fits Sell = refl

pub order_fits : (n : ℕ) (a : Asked) → verdict n a ≡ Ok tt → order_text.Fits a
unfolding verdict order_text
order_fits n a e =
    let side = a.offer.side in
    let form = a.offer.form in
    let p = past (bad_number a) out_of_range (and_then (form_verdict side form) (block_verdict n a.product form)) e in
    let q = or_parts (bad_row a.row || bad_member a.member) (bad_product a.product) p.0 in
    let r = or_parts (bad_row a.row) (bad_member a.member) q.0 in
    let f = first_past (form_verdict side form) (block_verdict n a.product form) p.1 in (
      (omega arith, ltb-false 255 a.row r.0),
      (in_range 1 999 a.member r.1, (in_range 1 38 a.product q.1, (side_fits side, form_fits side form f))),
    )

ticks_fit : (m : ℕ) (xs : List ℕ) → Within 1 300000 xs → Stages (λ m. tick_on (pred m)) (λ m _. pred m) m xs
ticks_fit m [] h = tt
ticks_fit m (x ∷ xs) h = (h.0, ticks_fit (pred m) xs h.1)

sets_fit : (m : ℕ) (xs : List ℕ) → Within 1 16777215 xs → Stages (λ m. set_line (pred m)) (λ m _. pred m) m xs
sets_fit m [] h = tt
sets_fit m (x ∷ xs) h = (h.0, sets_fit (pred m) xs h.1)

hours_fit : (xs : List ℕ) → length xs ≡ 24 → Within 1 300000 xs → hours_text.Fits xs
unfolding hours_text count_text
hours_fit xs n h = ((refl, (omega arith, omega arith)), (refl, ticks_fit (length xs) xs h))

blocks_fit : (xs : List ℕ) → length xs ≤ 14 → Within 1 16777215 xs → blocks_text.Fits xs
unfolding blocks_text count_text
blocks_fit xs n h = ((refl, (omega arith, n)), (refl, sets_fit (length xs) xs h))

orders_fit : (n : ℕ) (ps : List Place) → Proper n ps → (orders_text n).Fits (sequence ps)
unfolding orders_text count_text
orders_fit n ps h =
    let k = sequence_length ps in
    let m = h.long in
    ((refl, (omega arith, omega arith)), (refl, sequence_enters n (order_fits n) ps h))

-- a day whose table is proper is read back
day_returns : (refs sets : List ℕ) (ps : List Place) → length refs ≡ 24 → Within 1 300000 refs → length sets ≤ 14 → Within 1 16777215 sets → Proper (length sets) ps → Returns (day_of refs sets ps)
unfolding day_text
day_returns refs sets ps n r m s h =
    let d = day_of refs sets ps in
    let fits : day_text.Fits d = (hours_fit refs n r, (blocks_fit sets m s, orders_fit (length sets) ps h)) in
    record {
      loads = λ l p cs. faithful_day.full l p d cs fits;
      stands = stands (length sets) (sequence ps) (sequence_enters (length sets) (order_fits (length sets)) ps h);
    }

pub opening_returns : (o : Opening) (rows : List (Option Entry)) → length o.references ≡ 24 → Proper (length (sets_of o.blocks)) (places rows) → Returns (day_in o rows)
opening_returns o rows n h = day_returns (tick_values o.references) (sets_of o.blocks) (places rows) (ticks_length o.references ∙ n) (ticks_within o.references) (sets_few o.blocks) (sets_within o.blocks) h

-- the orders of a day that was read stand in its table
pub orders_stages : (d : DayText) → day_text.Fits d → Stages (order_line (length d.sets)) booked empty_book d.orders
unfolding day_text orders_text
orders_stages d h = h.1.1.1.1

pub loads_its_text : LoadsItsText
loads_its_text l p bs d q cs e =
    let f = faithful_day.sound l p bs d q cs e in
    let s = stands (length d.sets) d.orders (orders_stages d f.2) in
    let same : d ≡ day_of d.references d.sets (table_of d.orders) = ap (λ xs. record { references = d.references; sets = d.sets; orders = xs }) (sym s.orders) in
    record {
      text = f.0 ∙ ap (λ x. day_text.text x ++ cs) same;
      reached = f.1 ∙ ap (λ x. p + length (day_text.text x)) same;
      stands = s;
    }
