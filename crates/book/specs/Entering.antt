-- What entering, changing and withdrawing an order is answered, and what it leaves in the order table.
use Rattle.std.specs.Prelude.{ℕ, ◌+◌, Bool, cond, not, ◌&&◌, ◌||◌, List, [], ◌∷◌, Err, Result, ◌==◌, nat_le, slice_set}
use Rattle.faults.specs.declared.fault.Fault.{Fault}
use Rattle.faults.specs.declared.fault.Refusal.TheVariants.{OutOfRange, RowTaken, RowEmpty, OtherMember, BlocksFull, StampsSpent}
use Rattle.faults.specs.Answers.{wrong_length}
use Rattle.book.specs.Bids.{Asked, Place, vacant, held, bid_of}
use Rattle.book.specs.Verdicts.{is_block, bad_row, bad_member}
use Rattle.book.specs.Conditions.{Condition, when, decide, unless}
use Rattle.book.specs.Places.{place_at, taken, owned_by, others}

-- it is a block order and 32 other rows hold blocks
abbrev pub crowded : List Place → Asked → Bool
crowded ps a = is_block a.product && nat_le 32 (others a.row ps)

-- all 60,000 stamps are given
abbrev pub stamp_refusals : ℕ → List Condition
stamp_refusals given = when (nat_le 60000 given) StampsSpent ∷ []

-- what any order meets that is written
abbrev pub write_refusals : List Place → ℕ → Asked → List Condition
write_refusals ps given a = when (crowded ps a) (BlocksFull a.row) ∷ stamp_refusals given

abbrev pub enter_refusals : List Place → ℕ → Asked → List Condition
enter_refusals ps given a = when (taken (place_at ps a.row)) (RowTaken a.row) ∷ write_refusals ps given a

abbrev pub change_refusals : List Place → ℕ → Asked → List Condition
change_refusals ps given a =
    when (not (taken (place_at ps a.row))) (RowEmpty a.row)
    ∷ when (not (owned_by a.member (place_at ps a.row))) (OtherMember a.row)
    ∷ write_refusals ps given a

abbrev pub withdraw_refusals : List Place → ℕ → ℕ → List Condition
withdraw_refusals ps r m =
    when (not (taken (place_at ps r))) (RowEmpty r)
    ∷ when (not (owned_by m (place_at ps r))) (OtherMember r)
    ∷ []

-- the numbers of a withdrawal, before anything about rows
abbrev pub withdraw_numbers : ℕ → ℕ → List Condition → List Condition
withdraw_numbers r m cs = when (bad_row r || bad_member m) (OutOfRange 0) ∷ cs

-- the row written with the next stamp, and the row emptied
abbrev pub written : List Place → ℕ → Asked → List Place
written ps given a = slice_set ps a.row (held (bid_of a (given + 1)))

abbrev pub emptied : List Place → ℕ → List Place
emptied ps r = slice_set ps r vacant

-- the answers, and the places after the call
abbrev pub enter_answer : List Place → ℕ → Asked → Result ℕ Fault
enter_answer ps given a = decide (enter_refusals ps given a) (given + 1)

abbrev pub entered : List Place → ℕ → Asked → List Place
entered ps given a = unless (enter_refusals ps given a) (written ps given a) ps

abbrev pub change_answer : List Place → ℕ → Asked → Result ℕ Fault
change_answer ps given a = decide (change_refusals ps given a) (given + 1)

abbrev pub changed : List Place → ℕ → Asked → List Place
changed ps given a = unless (change_refusals ps given a) (written ps given a) ps

abbrev pub withdraw_answer : List Place → ℕ → ℕ → Result (Unit {0}) Fault
withdraw_answer ps r m = decide (withdraw_numbers r m (withdraw_refusals ps r m)) tt

abbrev pub withdrawn : List Place → ℕ → ℕ → List Place
withdrawn ps r m = unless (withdraw_numbers r m (withdraw_refusals ps r m)) (emptied ps r) ps

-- a lent table of n rows: the answer is that of a table of 256, else the length is wrong and the places stay
abbrev pub of_table : {A : Type 0} → ℕ → Result A Fault → Result A Fault
of_table n answer = cond (n == 256) answer (Err wrong_length)

abbrev pub in_table : {A : Type 0} → ℕ → A → A → A
in_table n new old = cond (n == 256) new old
