-- One piece written after another.
use Rattle.std.proofs.Common.{◌≡◌, ℕ, zero, suc, ◌+◌, ◌<◌, ◌≤◌, List, [], ◌∷◌, ◌++◌, length, drop, set, sym, refl, ap, ◌∙◌, ⊎_elim, arith, length-append}
use Rattle.std.proofs.lemmas.List.{take_all}
use Rattle.std.proofs.lemmas.Bool.{lt-ltb, le-ltb, cases_lt}
use Rattle.std.proofs.lemmas.Bool.Decides.{nat_tests}
use Rattle.text.specs.Writes.{wrote, reached, stored, next_at}

-- `wrote` byte by byte
wrote_none : (x : ℕ) (xs : List ℕ) → wrote (x ∷ xs) 0 [] ≡ x ∷ xs
unfolding wrote
wrote_none x xs = ap (λ l. x ∷ l) (take_all (length xs) xs (omega arith))

wrote_here : (x : ℕ) (xs : List ℕ) (b : ℕ) (bs : List ℕ) → wrote (x ∷ xs) 0 (b ∷ bs) ≡ b ∷ wrote xs 0 bs
unfolding wrote
wrote_here x xs b bs =
    let e : 0 + length (b ∷ bs) ≡ suc (length bs) = omega arith in
    let f : 0 + length bs ≡ length bs = omega arith in
    rw (e, f)

wrote_there : (x : ℕ) (xs : List ℕ) (at : ℕ) (bs : List ℕ) → wrote (x ∷ xs) (suc at) bs ≡ x ∷ wrote xs at bs
unfolding wrote
wrote_there x xs at bs =
    let e : suc at + length bs ≡ suc (at + length bs) = omega arith in
    rw e

wrote_nowhere : (at : ℕ) (bs : List ℕ) → wrote [] at bs ≡ []
unfolding wrote
wrote_nowhere at bs = refl

-- and so `reached`
reached_here : (x : ℕ) (xs : List ℕ) (b : ℕ) (bs : List ℕ) → reached (x ∷ xs) 0 (b ∷ bs) ≡ suc (reached xs 0 bs)
unfolding reached
reached_here x xs b bs = omega arith

reached_there : (x : ℕ) (xs : List ℕ) (at : ℕ) (bs : List ℕ) → reached (x ∷ xs) (suc at) bs ≡ suc (reached xs at bs)
unfolding reached
reached_there x xs at bs = omega arith

reached_start : (out : List ℕ) → reached out 0 [] ≡ 0
unfolding reached
reached_start out = omega arith

pub length_wrote : (out : List ℕ) (at : ℕ) (bs : List ℕ) → length (wrote out at bs) ≡ length out
length_wrote [] at bs = ap length (wrote_nowhere at bs)
length_wrote (x ∷ xs) zero [] = ap length (wrote_none x xs)
length_wrote (x ∷ xs) zero (b ∷ bs) = ap length (wrote_here x xs b bs) ∙ ap suc (length_wrote xs 0 bs)
length_wrote (x ∷ xs) (suc at) bs = ap length (wrote_there x xs at bs) ∙ ap suc (length_wrote xs at bs)

-- cs after bs
pub wrote_more : (out : List ℕ) (at : ℕ) (bs cs : List ℕ) → wrote (wrote out at bs) (reached out at bs) cs ≡ wrote out at (bs ++ cs)
wrote_more [] at bs cs = ap (λ o. wrote o (reached [] at bs) cs) (wrote_nowhere at bs) ∙ wrote_nowhere (reached [] at bs) cs ∙ sym (wrote_nowhere at (bs ++ cs))
wrote_more (x ∷ xs) zero [] cs = λ i. wrote (wrote_none x xs i) (reached_start (x ∷ xs) i) cs
wrote_more (x ∷ xs) zero (b ∷ bs) cs = (λ i. wrote (wrote_here x xs b bs i) (reached_here x xs b bs i) cs) ∙ wrote_there b (wrote xs 0 bs) (reached xs 0 bs) cs ∙ ap (λ l. b ∷ l) (wrote_more xs 0 bs cs) ∙ sym (wrote_here x xs b (bs ++ cs))
wrote_more (x ∷ xs) (suc at) bs cs = (λ i. wrote (wrote_there x xs at bs i) (reached_there x xs at bs i) cs) ∙ wrote_there x (wrote xs at bs) (reached xs at bs) cs ∙ ap (λ l. x ∷ l) (wrote_more xs at bs cs) ∙ sym (wrote_there x xs at (bs ++ cs))

pub reached_more : (out : List ℕ) (at : ℕ) (bs cs : List ℕ) → reached (wrote out at bs) (reached out at bs) cs ≡ reached out at (bs ++ cs)
unfolding reached
reached_more out at bs cs = omega (arith, length_wrote out at bs, length-append bs cs)

-- bs was written, which led from out to mid and k, and then cs, which led to end and m
pub write_on : (out mid end : List ℕ) (at k m : ℕ) (bs cs : List ℕ) → mid ≡ wrote out at bs → k ≡ reached out at bs → end ≡ wrote mid k cs → m ≡ reached mid k cs → (end ≡ wrote out at (bs ++ cs)) × (m ≡ reached out at (bs ++ cs))
write_on out mid end at k m bs cs e f g h = (g ∙ (λ i. wrote (e i) (f i) cs) ∙ wrote_more out at bs cs, h ∙ (λ i. reached (e i) (f i) cs) ∙ reached_more out at bs cs)

-- nothing is written
pub wrote_nothing : (out : List ℕ) (at : ℕ) → wrote out at [] ≡ out
wrote_nothing [] at = wrote_nowhere at []
wrote_nothing (x ∷ xs) zero = wrote_none x xs
wrote_nothing (x ∷ xs) (suc at) = wrote_there x xs at [] ∙ ap (λ l. x ∷ l) (wrote_nothing xs at)

pub reached_nothing : (out : List ℕ) (at : ℕ) → reached out at [] ≡ at
unfolding reached
reached_nothing out at = omega arith

-- one byte
byte_within : (out : List ℕ) (at b : ℕ) → at < length out → wrote out at (b ∷ []) ≡ set out at b
byte_within [] at b h = absurd (omega arith)
byte_within (x ∷ xs) zero b h = wrote_here x xs b [] ∙ ap (λ l. b ∷ l) (wrote_nothing xs 0)
byte_within (x ∷ xs) (suc at) b h = wrote_there x xs at (b ∷ []) ∙ ap (λ l. x ∷ l) (byte_within xs at b (omega arith))

byte_past : (out : List ℕ) (at b : ℕ) → length out ≤ at → wrote out at (b ∷ []) ≡ out
byte_past [] at b h = wrote_nowhere at (b ∷ [])
byte_past (x ∷ xs) zero b h = absurd (omega arith)
byte_past (x ∷ xs) (suc at) b h = wrote_there x xs at (b ∷ []) ∙ ap (λ l. x ∷ l) (byte_past xs at b (omega arith))

wrote_byte : (out : List ℕ) (at b : ℕ) → wrote out at (b ∷ []) ≡ stored out at b
wrote_byte out at b = ⊎_elim (λ h. rw (lt-ltb at (length out) h) (byte_within out at b h)) (λ h. rw (le-ltb at (length out) h) (byte_past out at b h)) (cases_lt at (length out))

reached_byte : (out : List ℕ) (at b : ℕ) → reached out at (b ∷ []) ≡ next_at out at
unfolding reached
reached_byte out at b = grind (arith, nat_tests)

-- bs was written, which led from out to mid and k, and then the byte b, which led to end and m
pub write_last : (out mid end : List ℕ) (at k m : ℕ) (bs : List ℕ) (b : ℕ) → mid ≡ wrote out at bs → k ≡ reached out at bs → end ≡ stored mid k b → m ≡ next_at mid k → (end ≡ wrote out at (bs ++ (b ∷ []))) × (m ≡ reached out at (bs ++ (b ∷ [])))
write_last out mid end at k m bs b e f g h = write_on out mid end at k m bs (b ∷ []) e f (g ∙ sym (wrote_byte mid k b)) (h ∙ sym (reached_byte mid k b))

-- and where it led alone
pub reached_last : (out mid : List ℕ) (at k m : ℕ) (bs : List ℕ) (b : ℕ) → mid ≡ wrote out at bs → k ≡ reached out at bs → m ≡ next_at mid k → m ≡ reached out at (bs ++ (b ∷ []))
reached_last out mid at k m bs b e f h = (write_last out mid (stored mid k b) at k m bs b e f refl h).1

-- the byte b alone
pub write_byte : (out end : List ℕ) (at m b : ℕ) → end ≡ stored out at b → m ≡ next_at out at → (end ≡ wrote out at (b ∷ [])) × (m ≡ reached out at (b ∷ []))
write_byte out end at m b g h = (g ∙ sym (wrote_byte out at b), h ∙ sym (reached_byte out at b))

-- a text that fits, at the front
pub wrote_front : (out bs : List ℕ) → length bs ≤ length out → wrote out 0 bs ≡ bs ++ drop (length bs) out
wrote_front [] [] h = wrote_nowhere 0 []
wrote_front [] (b ∷ bs) h = absurd (omega arith)
wrote_front (x ∷ xs) [] h = wrote_none x xs
wrote_front (x ∷ xs) (b ∷ bs) h = wrote_here x xs b bs ∙ ap (λ l. b ∷ l) (wrote_front xs bs (omega arith))

pub reached_front : (out bs : List ℕ) → length bs ≤ length out → reached out 0 bs ≡ length bs
unfolding reached
reached_front out bs h = omega arith
