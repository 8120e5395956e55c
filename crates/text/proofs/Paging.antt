-- One piece of a page after another.
use Rattle.std.proofs.Common.{◌≡◌, ℕ, zero, suc, ◌-◌, ◌≤◌, List, [], ◌∷◌, ◌++◌, length, take, refl, ap, ◌∙◌, arith, append_assoc, length-append, length-take}
use Rattle.std.proofs.lemmas.List.{append-nil, take_all}
use Rattle.text.specs.Pages.{printed}

take_nothing : (k : ℕ) → take {A = ℕ} k [] ≡ []
take_nothing zero = refl
take_nothing (suc k) = refl

cut_between : (k : ℕ) (b c : List ℕ) → take k b ++ take (k - length b) c ≡ take k (b ++ c)
cut_between k [] c = let e : k - 0 ≡ k = omega arith in ap (λ l. l ++ take (k - 0) c) (take_nothing k) ∙ ap (λ m. take m c) e
cut_between zero (x ∷ b) c = let e : 0 - suc (length b) ≡ 0 = omega arith in ap (λ m. take m c) e
cut_between (suc k) (x ∷ b) c =
    let e : suc k - suc (length b) ≡ k - length b = omega arith in
    ap (λ m. x ∷ (take k b ++ take m c)) e ∙ ap (λ l. x ∷ l) (cut_between k b c)

pub printed_on : (n : ℕ) (page b c : List ℕ) → printed n (printed n page b) c ≡ printed n page (b ++ c)
printed_on n page b c =
    let k = n - length page in
    let e : n - length (page ++ take k b) ≡ k - length b = omega (arith, length-append page (take k b), length-take k b) in
    ap (λ m. (page ++ take k b) ++ take m c) e
    ∙ append_assoc page (take k b) (take (k - length b) c)
    ∙ ap (λ l. page ++ l) (cut_between k b c)

-- nothing more
pub printed_nothing : (n : ℕ) (page : List ℕ) → printed n page [] ≡ page
printed_nothing n page = ap (λ l. page ++ l) (take_nothing (n - length page)) ∙ append-nil page

-- a text for which a new page has room stands there whole
pub printed_whole : (n : ℕ) (bs : List ℕ) → length bs ≤ n → printed n [] bs ≡ bs
printed_whole n bs h = let e : n - 0 ≡ n = omega arith in ap (λ m. take m bs) e ∙ take_all n bs h

-- two pieces, one after the other
pub printed_two : (n : ℕ) (page mid end b c bc : List ℕ) → mid ≡ printed n page b → end ≡ printed n mid c → b ++ c ≡ bc → end ≡ printed n page bc
printed_two n page mid end b c bc p q e = q ∙ ap (λ g. printed n g c) p ∙ printed_on n page b c ∙ ap (printed n page) e
