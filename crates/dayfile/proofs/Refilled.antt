-- Orders entered one after another into the empty table, and a table's orders entered anew.
use Rattle.std.proofs.Common.{◌≡◌, ℕ, zero, suc, ◌+◌, ◌<◌, ◌≤◌, Bool, true, false, cond, ◌&&◌, leb, List, [], ◌∷◌, ◌++◌, length, get_or, take, drop, set, replicate, Ok, Err, Result, sym, refl, ap, ◌∙◌, arith, length-set, get_or-set_other}
use lib.ListN.{length-replicate}
use Rattle.std.proofs.lemmas.List.{append_assoc, append-nil}
use Rattle.std.proofs.lemmas.Bool.{lt-leb, and_left, and_right}
use Rattle.faults.specs.declared.fault.Fault.{Fault}
use Rattle.faults.specs.declared.fault.Refusal.TheVariants.{RowTaken, BlocksFull, StampsSpent}
use Rattle.book.specs.Bids.{Asked, Bid, Place, vacant, held, bid_of}
use Rattle.book.specs.Verdicts.{verdict, is_block}
use Rattle.book.specs.Places.{place_at, taken, blocks_held, others}
use Rattle.book.specs.Entering.{crowded, enter_answer}
use Rattle.text.specs.Staged.{granted, denied, Stages, left}
use Rattle.dayfile.specs.Lines.{order_text}
use Rattle.dayfile.specs.Day.{Book, empty_book, empty_places, booked, ruling, line_rule, order_line}
use Rattle.dayfile.specs.Sequence.{order_at, placed, stamped, unstamped, numbered, sequence}
use Rattle.dayfile.specs.Entered.{Stands, Holding, Proper}
use Rattle.dayfile.proofs.Ordering.{Below, length_placed, written_last, below_set, below_more, unstamped_numbered}

-- what it takes to be entered
pub record Free (ps : List Place) (g : ℕ) (a : Asked) : Type 0 where
  pub vacant_row : taken (place_at ps a.row) ≡ false
  pub room : crowded ps a ≡ false
  pub stamp_left : leb 60000 g ≡ false

pub enters_when : (ps : List Place) (g : ℕ) (a : Asked) → Free ps g a → enter_answer ps g a ≡ Ok (g + 1)
enters_when ps g a f = rw (f.vacant_row, f.room, f.stamp_left)

pub enters_parts : (ps : List Place) (g : ℕ) (a : Asked) → ruling (enter_answer ps g a) ≡ granted → Free ps g a
enters_parts ps g a e = go (taken (place_at ps a.row)) refl (crowded ps a) refl (leb 60000 g) refl
  where
    go : (t : Bool) → taken (place_at ps a.row) ≡ t → (u : Bool) → crowded ps a ≡ u → (v : Bool) → leb 60000 g ≡ v → Free ps g a
    go true p u q v r = let e' : denied (RowTaken a.row) ≡ granted = rw p at e in let z : ◌≡◌ {A = ℕ} 0 1 = cc in absurd (omega arith)
    go false p true q v r = let e' : denied (BlocksFull a.row) ≡ granted = rw (p, q) at e in let z : ◌≡◌ {A = ℕ} 0 1 = cc in absurd (omega arith)
    go false p false q true r = let e' : denied StampsSpent ≡ granted = rw (p, q, r) at e in let z : ◌≡◌ {A = ℕ} 0 1 = cc in absurd (omega arith)
    go false p false q false r = record { vacant_row = p; room = q; stamp_left = r }

rule_enters : (n : ℕ) (b : Book) (a : Asked) → line_rule n b a ≡ granted → ruling (enter_answer b.places b.given a) ≡ granted
unfolding line_rule
rule_enters n b a e = go (verdict n a) refl
  where
    go : (v : Result (Unit {0}) Fault) → verdict n a ≡ v → ruling (enter_answer b.places b.given a) ≡ granted
    go (Ok u) h = rw h at e
    go (Err f) h = let e' : denied f.refusal ≡ granted = rw h at e in let z : ◌≡◌ {A = ℕ} 0 1 = cc in absurd (omega arith)

rule_when : (n : ℕ) (b : Book) (a : Asked) → verdict n a ≡ Ok tt → Free b.places b.given a → line_rule n b a ≡ granted
unfolding line_rule
rule_when n b a e f = rw (e, f.vacant_row, f.room, f.stamp_left)

row_small : (a : Asked) → order_text.Fits a → a.row < 256
unfolding order_text
row_small a h = omega (arith, h.0.1)

below_none : (n k : ℕ) → Below k (replicate n vacant)
below_none zero k = tt
below_none (suc n) k = below_none n k

stamped_none : (n i : ℕ) → stamped i (replicate n vacant) ≡ []
stamped_none zero i = refl
stamped_none (suc n) i = stamped_none n (suc i)

blocks_none : (n : ℕ) → blocks_held (replicate n vacant) ≡ 0
unfolding blocks_held
blocks_none zero = refl
blocks_none (suc n) = let ih = blocks_none n in omega arith

free_none : (n k : ℕ) → taken (get_or (replicate n vacant) k vacant) ≡ false
free_none zero k = refl
free_none (suc n) zero = refl
free_none (suc n) (suc k) = free_none n k

-- lines that were read one after another stand under the stamps that follow
entered_all : (n : ℕ) (b : Book) (xs : List Asked) → Stages (order_line n) booked b xs → length b.places ≡ 256 → Below (b.given + 1) b.places → stamped 0 (left booked b xs).places ≡ stamped 0 b.places ++ numbered b.given xs
entered_all n b [] h long g = sym (append-nil (stamped 0 b.places))
entered_all n b (x ∷ xs) h long g =
    let ps = b.places in
    let small = row_small x h.0.0 in
    let lt : x.row < length ps = omega arith in
    let f = (enters_parts ps b.given x (rule_enters n b x h.0.1)).vacant_row in
    let here = written_last ps 0 x.row (b.given + 1) x lt f g (omega arith) in
    let more = below_set (b.given + 1 + 1) ps x.row (bid_of x (b.given + 1)) (below_more (b.given + 1) (b.given + 1 + 1) ps (omega arith) g) (omega arith) in
    let ih = entered_all n (booked b x) xs h.1 (length-set ps x.row (held (bid_of x (b.given + 1))) ∙ long) more in
    ih ∙ ap (λ l. l ++ numbered (b.given + 1) xs) here ∙ append_assoc (stamped 0 ps) ((b.given + 1, x) ∷ []) (numbered (b.given + 1) xs)

pub stands : (n : ℕ) (xs : List Asked) → Stages (order_line n) booked empty_book xs → Stands xs
unfolding empty_places sequence
stands n xs h =
    let a = entered_all n empty_book xs h (length-replicate 256 vacant) (below_none 256 1) in
    let b = a ∙ ap (λ l. l ++ numbered 0 xs) (stamped_none 256 0) in
    record { stamps = b; orders = ap unstamped b ∙ unstamped_numbered 0 xs }

-- one more place holds a block, if the order is one
abbrev one : Bool → ℕ
one t = cond t 1 0

blocks_written : (ps : List Place) (k : ℕ) (b : Bid) → k < length ps → taken (get_or ps k vacant) ≡ false → blocks_held (set ps k (held b)) ≡ blocks_held ps + one (is_block b.product)
unfolding blocks_held
blocks_written [] k b lt f = absurd (omega arith)
blocks_written (vacant ∷ ps) zero b lt f = omega arith
blocks_written (held c ∷ ps) zero b lt f = let z : ◌≡◌ {A = ℕ} 0 1 = cc in absurd (omega arith)
blocks_written (vacant ∷ ps) (suc k) b lt f = let ih = blocks_written ps k b (omega arith) f in omega arith
blocks_written (held c ∷ ps) (suc k) b lt f = let ih = blocks_written ps k b (omega arith) f in omega arith

-- a vacant row has every block in the others
others_vacant : (k : ℕ) (ps : List Place) → taken (get_or ps k vacant) ≡ false → others k ps ≡ blocks_held ps
unfolding others blocks_held
others_vacant k ps f = go k ps f
  where
    go : (k : ℕ) (ps : List Place) → taken (get_or ps k vacant) ≡ false → blocks_held (take k ps) + blocks_held (drop (k + 1) ps) ≡ blocks_held ps
    go zero [] f = refl
    go zero (vacant ∷ ps) f = refl
    go zero (held b ∷ ps) f = let z : ◌≡◌ {A = ℕ} 0 1 = cc in absurd (omega arith)
    go (suc k) [] f = let e : suc k + 1 ≡ suc (k + 1) = omega arith in rw e
    go (suc k) (p ∷ ps) f =
        let e : suc k + 1 ≡ suc (k + 1) = omega arith in
        let ih = go k ps f in
        rw e (omega arith)

-- the orders of a list: each row once, and how many are blocks
abbrev blocks_of : List Asked → ℕ
blocks_of [] = 0
blocks_of (a ∷ xs) = one (is_block a.product) + blocks_of xs

abbrev Absent : ℕ → List Asked → Type 0
Absent r [] = Unit {0}
Absent r (a ∷ xs) = (a.row ≡ r → ⊥) × Absent r xs

abbrev Apart : List Asked → Type 0
Apart [] = Unit {0}
Apart (a ∷ xs) = Absent a.row xs × Apart xs

abbrev pub All : (Asked → Type 0) → List Asked → Type 0
All P [] = Unit {0}
All P (a ∷ xs) = P a × All P xs

-- a place among others keeps all that
all_placed : (P : Asked → Type 0) (x : ℕ × Asked) (ys : List (ℕ × Asked)) → P x.1 → All P (unstamped ys) → All P (unstamped (placed x ys))
all_placed P x [] h g = (h, tt)
all_placed P x (y ∷ ys) h g =
    elim (leb x.0 y.0) as (λ t. All P (unstamped (cond t (x ∷ (y ∷ ys)) (y ∷ placed x ys)))) [ true ↦ (h, g) | false ↦ (g.0, all_placed P x ys h g.1) ]

absent_placed : (r : ℕ) (x : ℕ × Asked) (ys : List (ℕ × Asked)) → (x.1.row ≡ r → ⊥) → Absent r (unstamped ys) → Absent r (unstamped (placed x ys))
absent_placed r x [] h g = (h, tt)
absent_placed r x (y ∷ ys) h g =
    elim (leb x.0 y.0) as (λ t. Absent r (unstamped (cond t (x ∷ (y ∷ ys)) (y ∷ placed x ys)))) [ true ↦ (h, g) | false ↦ (g.0, absent_placed r x ys h g.1) ]

apart_placed : (x : ℕ × Asked) (ys : List (ℕ × Asked)) → Absent x.1.row (unstamped ys) → Apart (unstamped ys) → Apart (unstamped (placed x ys))
apart_placed x [] h g = (tt, tt)
apart_placed x (y ∷ ys) h g =
    elim (leb x.0 y.0) as (λ t. Apart (unstamped (cond t (x ∷ (y ∷ ys)) (y ∷ placed x ys))))
    [ true ↦ (h, g) | false ↦ (absent_placed y.1.row x ys (λ e. h.0 (sym e)) g.0, apart_placed x ys h.1 g.1) ]

blocks_placed : (x : ℕ × Asked) (ys : List (ℕ × Asked)) → blocks_of (unstamped (placed x ys)) ≡ one (is_block x.1.product) + blocks_of (unstamped ys)
blocks_placed x [] = refl
blocks_placed x (y ∷ ys) =
    let ih = blocks_placed x ys in
    elim (leb x.0 y.0) as (λ t. blocks_of (unstamped (cond t (x ∷ (y ∷ ys)) (y ∷ placed x ys))) ≡ one (is_block x.1.product) + (one (is_block y.1.product) + blocks_of (unstamped ys))) [ true ↦ refl | false ↦ omega arith ]

-- and so does a table
absent_stamped : (r i : ℕ) (ps : List Place) → r < i → Absent r (unstamped (stamped i ps))
absent_stamped r i [] h = tt
absent_stamped r i (vacant ∷ ps) h = absent_stamped r (suc i) ps (omega arith)
absent_stamped r i (held b ∷ ps) h = absent_placed r (b.stamp, order_at i b) (stamped (suc i) ps) (λ e. omega arith) (absent_stamped r (suc i) ps (omega arith))

apart_stamped : (i : ℕ) (ps : List Place) → Apart (unstamped (stamped i ps))
apart_stamped i [] = tt
apart_stamped i (vacant ∷ ps) = apart_stamped (suc i) ps
apart_stamped i (held b ∷ ps) = apart_placed (b.stamp, order_at i b) (stamped (suc i) ps) (absent_stamped i (suc i) ps (omega arith)) (apart_stamped (suc i) ps)

blocks_stamped : (i : ℕ) (ps : List Place) → blocks_of (unstamped (stamped i ps)) ≡ blocks_held ps
unfolding blocks_held
blocks_stamped i [] = refl
blocks_stamped i (vacant ∷ ps) = let ih = blocks_stamped (suc i) ps in omega arith
blocks_stamped i (held b ∷ ps) = blocks_placed (b.stamp, order_at i b) (stamped (suc i) ps) ∙ ap (λ n. one (is_block b.product) + n) (blocks_stamped (suc i) ps)

length_stamped : (i : ℕ) (ps : List Place) → length (unstamped (stamped i ps)) ≤ length ps
length_stamped i [] = omega arith
length_stamped i (vacant ∷ ps) = let ih = length_stamped (suc i) ps in omega arith
length_stamped i (held b ∷ ps) = let ih = length_stamped (suc i) ps in let k = length_placed (b.stamp, order_at i b) (stamped (suc i) ps) in omega arith

pub sequence_length : (ps : List Place) → length (sequence ps) ≤ length ps
unfolding sequence
sequence_length ps = length_stamped 0 ps

all_stamped : (P : Asked → Type 0) (i : ℕ) (ps : List Place) → Holding P i ps → All P (unstamped (stamped i ps))
all_stamped P i [] h = tt
all_stamped P i (vacant ∷ ps) h = all_stamped P (suc i) ps h
all_stamped P i (held b ∷ ps) h = all_placed P (b.stamp, order_at i b) (stamped (suc i) ps) h.0 (all_stamped P (suc i) ps h.1)

pub all_sequence : (P : Asked → Type 0) (ps : List Place) → Holding P 0 ps → All P (sequence ps)
unfolding sequence
all_sequence P ps h = all_stamped P 0 ps h

-- every order's row is free
abbrev Open : List Place → List Asked → Type 0
Open ps xs = All (λ a. taken (place_at ps a.row) ≡ false) xs

open_set : (ps : List Place) (k : ℕ) (p : Place) (xs : List Asked) → Absent k xs → Open ps xs → Open (set ps k p) xs
open_set ps k p [] a h = tt
open_set ps k p (x ∷ xs) a h = (ap taken (get_or-set_other ps k x.row p vacant a.0) ∙ h.0, open_set ps k p xs a.1 h.1)

room : (ps : List Place) (a : Asked) (n : ℕ) → taken (place_at ps a.row) ≡ false → blocks_held ps + (one (is_block a.product) + n) ≤ 32 → crowded ps a ≡ false
room ps a n f h = go (is_block a.product) refl
  where
    go : (t : Bool) → is_block a.product ≡ t → (is_block a.product && leb 32 (others a.row ps)) ≡ false
    go true e =
        let k : blocks_held ps + (1 + n) ≤ 32 = rw e at h in
        and_right (is_block a.product) (leb 32 (others a.row ps)) (lt-leb 32 (others a.row ps) (omega (arith, others_vacant a.row ps f)))
    go false e = and_left (is_block a.product) (leb 32 (others a.row ps)) e

-- orders with rows of their own that are free, and with few enough blocks, enter one after another
enterable : (n : ℕ) (b : Book) (xs : List Asked) → length b.places ≡ 256 → All order_text.Fits xs → All (λ a. verdict n a ≡ Ok tt) xs → Open b.places xs → Apart xs → blocks_held b.places + blocks_of xs ≤ 32 → b.given + length xs ≤ 60000 → Stages (order_line n) booked b xs
enterable n b [] long f v o a k m = tt
enterable n b (x ∷ xs) long f v o a k m =
    let ps = b.places in
    let small = row_small x f.0 in
    let lt : x.row < length ps = omega arith in
    let p = held (bid_of x (b.given + 1)) in
    let more = blocks_written ps x.row (bid_of x (b.given + 1)) lt o.0 in
    let free : Free ps b.given x = record { vacant_row = o.0; room = room ps x (blocks_of xs) o.0 k; stamp_left = lt-leb 60000 b.given (omega arith) } in (
      (f.0, rule_when n b x v.0 free),
      enterable n (booked b x) xs (length-set ps x.row p ∙ long) f.1 v.1 (open_set ps x.row p xs a.0 o.1) a.1 (omega arith) (omega arith),
    )

all_open : (xs : List Asked) → Open empty_places xs
unfolding empty_places
all_open [] = tt
all_open (x ∷ xs) = (free_none 256 x.row, all_open xs)

-- what a rule grants fits its line
all_fit : (n : ℕ) → ((a : Asked) → verdict n a ≡ Ok tt → order_text.Fits a) → (xs : List Asked) → All (λ a. verdict n a ≡ Ok tt) xs → All order_text.Fits xs
all_fit n fits [] h = tt
all_fit n fits (x ∷ xs) h = (fits x h.0, all_fit n fits xs h.1)

pub sequence_enters : (n : ℕ) → ((a : Asked) → verdict n a ≡ Ok tt → order_text.Fits a) → (ps : List Place) → Proper n ps → Stages (order_line n) booked empty_book (sequence ps)
unfolding sequence empty_places
sequence_enters n fits ps h =
    let xs = unstamped (stamped 0 ps) in
    let none = blocks_none 256 in
    let all = blocks_stamped 0 ps in
    let len = length_stamped 0 ps in
    let v = all_stamped (λ a. verdict n a ≡ Ok tt) 0 ps h.lawful in
    enterable n empty_book xs (length-replicate 256 vacant) (all_fit n fits xs v) v (all_open xs) (apart_stamped 0 ps) (omega (arith, h.few)) (omega (arith, h.long))
