-- No day's text is longer than 40,000 bytes.
use Rattle.std.proofs.Common.{◌≡◌, ℕ, suc, pred, ◌+◌, ◌*◌, ◌^◌, ◌<◌, ◌≤◌, true, not, ltb, List, [], ◌∷◌, ◌++◌, length, take, codes, decimal, ap, ◌∙◌, arith, length-append, Option, None, Some}
use Rattle.std.proofs.lemmas.List.{length-take, length-map}
use Rattle.std.proofs.lemmas.Fmt.{length-decimal-le}
use Rattle.std.proofs.lemmas.Bool.{and_parts, or_parts, not-true, ltb-false}
use Rattle.curves.specs.declared.sides.Side.{Side}
use Rattle.curves.specs.declared.sides.Side.TheVariants.{Buy, Sell}
use Rattle.curves.specs.declared.pairs.Pair.{Pair}
use Rattle.curves.specs.declared.ticks.Tick.{Tick}
use Rattle.curves.specs.declared.orders.Order.{Order}
use Rattle.curves.specs.declared.orders.Order.TheVariants.{Market, Step, Linear}
use Rattle.curves.specs.Points.{Point}
use Rattle.curves.specs.Views.{point, points}
use Rattle.curves.specs.Offers.{Form, flat, stairs, slopes}
use Rattle.curves.specs.Orders.{offer_of}
use Rattle.book.specs.declared.entries.Entry.{Entry}
use Rattle.book.specs.declared.blocks.Blocks.{Blocks}
use Rattle.book.specs.Bids.{Asked}
use Rattle.book.specs.HourSets.{bad_hours, all_hours}
use Rattle.book.specs.Views.{place_of, places, sets_of}
use Rattle.text.specs.Staged.{staged_text, many}
use Rattle.dayfile.specs.declared.opening.Opening.{Opening}
use Rattle.dayfile.specs.Kinds.{side_name}
use Rattle.dayfile.specs.Lines.{closing, point_text, point_on, pairs_text, form_text, order_text}
use Rattle.dayfile.specs.Day.{tick_on, set_line, hours_text, blocks_text}
use Rattle.dayfile.specs.Views.{tick_values}
use Rattle.dayfile.specs.Sequence.{sequence}
use Rattle.dayfile.specs.Entered.{Holding}
use Rattle.dayfile.specs.Written.{headed, lines_text, table_text, day_in, bytes_of}
use Rattle.dayfile.proofs.Refilled.{All, all_sequence, sequence_length}
use Rattle.dayfile.proofs.Worded.{num, point_text_is, pairs_said, flat_text, stairs_text, slopes_text, order_text_is, hours_text_is, blocks_text_is, lines_more, lines_none, day_text_is, ticks_length}

num_short : (k n c : ℕ) → 0 < k → n < 10 ^ k → n < 2 ^ 64 → length (num n c) ≤ k + 1
num_short k n c p h s = omega (arith, length-append (decimal n) (c ∷ []), length-decimal-le k n p h s)

-- numbers in a range
abbrev pub Within : ℕ → ℕ → List ℕ → Type 0
Within low high [] = Unit {0}
Within low high (x ∷ xs) = ((low ≤ x) × (x ≤ high)) × Within low high xs

ticks_short : (m : ℕ) (xs : List ℕ) → Within 1 300000 xs → length (staged_text (λ m. tick_on (pred m)) (λ m _. pred m) m xs) ≤ 7 * length xs
ticks_short m [] h = omega arith
ticks_short m (x ∷ xs) h =
    let c = closing (pred m) in
    let few : x ≤ 300000 = h.0.1 in
    let one = num_short 6 x c (omega arith) (omega arith) (omega arith) in
    let more = ticks_short (pred m) xs h.1 in
    let both = length-append (num x c) (staged_text (λ m. tick_on (pred m)) (λ m _. pred m) (pred m) xs) in
    omega arith

sets_short : (m : ℕ) (xs : List ℕ) → Within 1 16777215 xs → length (staged_text (λ m. set_line (pred m)) (λ m _. pred m) m xs) ≤ 9 * length xs
sets_short m [] h = omega arith
sets_short m (x ∷ xs) h =
    let few : x ≤ 16777215 = h.0.1 in
    let one = num_short 8 x 10 (omega arith) (omega arith) (omega arith) in
    let more = sets_short (pred m) xs h.1 in
    let both = length-append (num x 10) (staged_text (λ m. set_line (pred m)) (λ m _. pred m) (pred m) xs) in
    omega arith

-- the numbers of an order are no greater than an order's can be
abbrev SmallPoints : List Point → Type 0
SmallPoints [] = Unit {0}
SmallPoints (p ∷ ps) = ((p.tick ≤ 300000) × (p.volume ≤ 100000)) × SmallPoints ps

abbrev SmallForm : Form → Type 0
SmallForm (flat v) = v ≤ 100000
SmallForm (stairs ps) = (length ps ≤ 8) × SmallPoints ps
SmallForm (slopes ps) = (length ps ≤ 8) × SmallPoints ps

record Small (a : Asked) : Type 0 where
  pub row : a.row ≤ 255
  pub member : a.member ≤ 999
  pub product : a.product ≤ 38
  pub form : SmallForm a.offer.form

points_short : (m : ℕ) (ps : List Point) → SmallPoints ps → length (staged_text (λ m. point_on (pred m)) (λ m _. pred m) m ps) ≤ 14 * length ps
points_short m [] h = omega arith
points_short m (p ∷ ps) h =
    let c = closing (pred m) in
    let t : p.tick ≤ 300000 = h.0.0 in
    let v : p.volume ≤ 100000 = h.0.1 in
    let one = num_short 6 p.tick 32 (omega arith) (omega arith) (omega arith) in
    let two = num_short 6 p.volume c (omega arith) (omega arith) (omega arith) in
    let here = ap length (point_text_is c p) ∙ length-append (num p.tick 32) (num p.volume c) in
    let more = points_short (pred m) ps h.1 in
    let both = length-append ((point_text c).text p) (staged_text (λ m. point_on (pred m)) (λ m _. pred m) (pred m) ps) in
    omega arith

pairs_short : (ps : List Point) → length ps ≤ 8 → SmallPoints ps → length (pairs_text.text ps) ≤ 114
pairs_short ps n h =
    let one = num_short 1 (length ps) 32 (omega arith) (omega arith) (omega arith) in
    let more = points_short (length ps) ps h in
    let both = ap length (pairs_said ps) ∙ length-append (num (length ps) 32) ((many point_on (length ps)).text ps) in
    omega arith

form_short : (f : Form) → SmallForm f → length (form_text.text f) ≤ 121
form_short (flat v) h =
    let one = num_short 6 v 10 (omega arith) (omega arith) (omega arith) in
    let both = ap length (flat_text v) ∙ length-append (codes "market" ++ (32 ∷ [])) (num v 10) in
    omega arith
form_short (stairs ps) h =
    let more = pairs_short ps h.0 h.1 in
    let both = ap length (stairs_text ps) ∙ length-append (codes "step" ++ (32 ∷ [])) (pairs_text.text ps) in
    omega arith
form_short (slopes ps) h =
    let more = pairs_short ps h.0 h.1 in
    let both = ap length (slopes_text ps) ∙ length-append (codes "linear" ++ (32 ∷ [])) (pairs_text.text ps) in
    omega arith

side_short : (s : Side) → length (side_name s ++ (32 ∷ [])) ≤ 5
side_short Buy = omega arith
side_short Sell = omega arith

order_short : (a : Asked) → Small a → length (order_text.text a) ≤ 137
order_short a h =
    let r : a.row ≤ 255 = h.row in
    let m : a.member ≤ 999 = h.member in
    let p : a.product ≤ 38 = h.product in
    let side = side_name a.offer.side ++ (32 ∷ []) in
    let form = form_text.text a.offer.form in
    let one = num_short 3 a.row 32 (omega arith) (omega arith) (omega arith) in
    let two = num_short 3 a.member 32 (omega arith) (omega arith) (omega arith) in
    let three = num_short 2 a.product 32 (omega arith) (omega arith) (omega arith) in
    let four = side_short a.offer.side in
    let five = form_short a.offer.form h.form in
    let e = ap length (order_text_is a) ∙ length-append (num a.row 32) (num a.member 32 ++ (num a.product 32 ++ (side ++ form))) in
    let f = length-append (num a.member 32) (num a.product 32 ++ (side ++ form)) in
    let g = length-append (num a.product 32) (side ++ form) in
    let k = length-append side form in
    omega arith

lines_short : (xs : List Asked) → All Small xs → length (lines_text xs) ≤ 137 * length xs
lines_short [] h = let e = ap length lines_none in omega arith
lines_short (a ∷ xs) h =
    let one = order_short a h.0 in
    let more = lines_short xs h.1 in
    let both = ap length (lines_more a xs) ∙ length-append (order_text.text a) (lines_text xs) in
    omega arith

headed_short : (w : List ℕ) (n : ℕ) → n ≤ 256 → length (headed w n) ≤ length w + 5
headed_short w n h =
    let one = num_short 3 n 10 (omega arith) (omega arith) (omega arith) in
    let both = length-append (w ++ (32 ∷ [])) (num n 10) in
    let word = length-append w (32 ∷ []) in
    omega arith

-- what the types of the code say of their numbers
small_points : (ps : List Pair) → SmallPoints (points ps)
small_points [] = tt
small_points (p ∷ ps) = ((p.high, p.few), small_points ps)

few_points : (n : ℕ) (ps : List Pair) → n ≤ 8 → length (points (take n ps)) ≤ 8
few_points n ps h = omega (arith, length-map (take n ps) point, length-take n ps)

small_form : (o : Order) → SmallForm (offer_of o).form
small_form (Market m) = m.few
small_form (Step s) = (few_points s.chain.count s.chain.pairs s.chain.fits, small_points (take s.chain.count s.chain.pairs))
small_form (Linear l) = (few_points l.chain.count l.chain.pairs l.chain.fits, small_points (take l.chain.count l.chain.pairs))

small_rows : (i : ℕ) (rows : List (Option Entry)) → i + length rows ≤ 256 → Holding Small i (places rows)
unfolding places
small_rows i [] h = tt
small_rows i (None ∷ rs) h = small_rows (suc i) rs (omega arith)
small_rows i (Some e ∷ rs) h = (record { row = omega arith; member = e.known; product = e.listed; form = small_form e.order }, small_rows (suc i) rs (omega arith))

pub ticks_within : (ts : List Tick) → Within 1 300000 (tick_values ts)
unfolding tick_values
ticks_within [] = tt
ticks_within (t ∷ ts) = ((t.low, t.high), ticks_within ts)

hours_within : (hs : List ℕ) → all_hours hs ≡ true → Within 1 16777215 hs
hours_within [] e = tt
hours_within (h ∷ hs) e =
    let p = and_parts (not (bad_hours h)) (all_hours hs) e in
    let q = or_parts (ltb h 1) (ltb 16777215 h) (not-true (bad_hours h) p.0) in
    ((ltb-false h 1 q.0, ltb-false 16777215 h q.1), hours_within hs p.1)

pub sets_within : (b : Blocks) → Within 1 16777215 (sets_of b)
sets_within b = hours_within (sets_of b) b.proper

pub sets_few : (b : Blocks) → length (sets_of b) ≤ 14
sets_few b = let n = length-take b.count b.sets in let f = b.few in omega arith

rows_few : (rows : List (Option Entry)) → length rows ≡ 256 → length (sequence (places rows)) ≤ 256
unfolding places
rows_few rows e = omega (arith, sequence_length (places rows), length-map rows place_of)

pub day_short : (o : Opening) (rows : List (Option Entry)) → length o.references ≡ 24 → length rows ≡ 256 → length (bytes_of o rows) ≤ 40000
unfolding bytes_of
day_short o rows refs all =
    let vs = tick_values o.references in
    let hs = sets_of o.blocks in
    let xs = sequence (places rows) in
    let nv = ticks_length o.references in
    let nh = sets_few o.blocks in
    let nx = rows_few rows all in
    let a = headed_short (codes "hours") (length vs) (omega arith) in
    let b = ticks_short (length vs) vs (ticks_within o.references) in
    let ab = ap length (hours_text_is vs) ∙ length-append (headed (codes "hours") (length vs)) ((many tick_on (length vs)).text vs) in
    let c = headed_short (codes "blocks") (length hs) (omega arith) in
    let d = sets_short (length hs) hs (sets_within o.blocks) in
    let cd = ap length (blocks_text_is hs) ∙ length-append (headed (codes "blocks") (length hs)) ((many set_line (length hs)).text hs) in
    let e = headed_short (codes "orders") (length xs) (omega arith) in
    let f = lines_short xs (all_sequence Small (places rows) (small_rows 0 rows (omega arith))) in
    let ef = length-append (headed (codes "orders") (length xs)) (lines_text xs) in
    let whole = ap length (day_text_is (day_in o rows)) ∙ length-append (hours_text.text vs) (blocks_text.text hs ++ table_text xs) in
    let rest = length-append (blocks_text.text hs) (table_text xs) in
    omega arith
