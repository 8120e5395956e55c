-- The descriptions of an order line and of a day are faithful.
use Rattle.std.proofs.Common.{◌≡◌, ℕ, ◌^◌, ◌<◌, true, false, cond, eqb, List, [], ◌∷◌, length, codes, sym, refl, ap, arith}
use Rattle.curves.specs.declared.sides.Side.TheVariants.{Buy, Sell}
use Rattle.curves.specs.Offers.{Form, flat, stairs, slopes}
use Rattle.text.specs.Format.{Format, item, then, parting, Faithful}
use Rattle.text.specs.Items.{number, keyword}
use Rattle.text.specs.Staged.{many}
use Rattle.text.proofs.Laws.{faithful_item, faithful_then, faithful_dressed, faithful_line}
use Rattle.text.proofs.Numbers.{lawful_number, lawful_word}
use Rattle.text.proofs.Stages.{faithful_checked, faithful_recast, faithful_staged, faithful_many}
use Rattle.dayfile.specs.declared.kinds.Kind.{Kind}
use Rattle.dayfile.specs.declared.kinds.Kind.TheVariants.{Market, Step, Linear}
use Rattle.dayfile.specs.Kinds.{side_name, word_of, side_word, side_text, kind_name, kind_word}
use Rattle.dayfile.specs.Lines.{closing, as_point, point_items, point_text, point_on, pair_items, pairs_text, kind_of, volume_in, pairs_in, body, form_items, form_text, order_items, as_asked, as_items, order_text}
use Rattle.dayfile.specs.Day.{count_items, count_text, section, tick_on, tick_line, hours_text, set_line, blocks_text, empty_book, booked, line_rule, order_line, order_lines, orders_text, day_items, as_day, day_text}

closing_parts : (k : ℕ) → parting (closing k) ≡ true
closing_parts k = elim (eqb k 0) as (λ t. parting (cond t 10 32) ≡ true) [ true ↦ refl | false ↦ refl ]

pub faithful_number : (low high c : ℕ) → high < 2 ^ 64 → parting c ≡ true → Faithful (item (number low high) c)
faithful_number low high c small p = faithful_item (number low high) c (lawful_number low high small) p

pub faithful_point : (c : ℕ) → parting c ≡ true → Faithful (point_text c)
unfolding point_text
faithful_point c p =
    faithful_dressed as_point (λ p. (p.tick, p.volume)) (point_items c) (λ a h. refl) (λ p. refl)
    (faithful_then _ _ (faithful_number 1 300000 32 (omega arith) refl) (λ _ _. faithful_number 1 100000 c (omega arith) p))

pub faithful_pairs : Faithful pairs_text
unfolding pairs_text
faithful_pairs =
    faithful_dressed (λ p. p.1) (λ ps. (length ps, ps)) pair_items (λ a h. ap (λ n. (n, a.1)) h.1.0) (λ ps. refl)
    (faithful_then _ _ (faithful_number 1 8 32 (omega arith) refl) (λ n _. faithful_many point_on (λ k. faithful_point (closing k) (closing_parts k)) n))

faithful_body : (k : Kind) → Faithful (body k)
faithful_body Market = faithful_recast flat volume_in (item (number 1 100000) 10) (λ a h. refl) (faithful_number 1 100000 10 (omega arith) refl)
faithful_body Step = faithful_recast stairs pairs_in pairs_text (λ a h. refl) faithful_pairs
faithful_body Linear = faithful_recast slopes pairs_in pairs_text (λ a h. refl) faithful_pairs

-- a form after its word is of that kind
kind_said : (k : Kind) (f : Form) → (body k).Fits f → kind_of f ≡ k
kind_said Market f h = ap kind_of (sym h.1)
kind_said Step f h = ap kind_of (sym h.1)
kind_said Linear f h = ap kind_of (sym h.1)

pub faithful_form : Faithful form_text
unfolding form_text
faithful_form =
    faithful_recast (λ p. p.1) (λ f. (kind_of f, f)) form_items (λ a h. ap (λ k. (k, a.1)) (kind_said a.0 a.1 h.1))
    (faithful_then _ _ (faithful_item kind_word 32 (lawful_word kind_name (Market ∷ Step ∷ Linear ∷ [])) refl) (λ k _. faithful_body k))

faithful_side : Faithful side_text
faithful_side = faithful_dressed (λ w. w.side) word_of (item side_word 32) (λ w h. refl) (λ s. refl) (faithful_item side_word 32 (lawful_word (λ w. side_name w.side) (word_of Buy ∷ word_of Sell ∷ [])) refl)

pub faithful_order : Faithful order_text
unfolding order_text
faithful_order =
    faithful_dressed as_asked as_items order_items (λ a h. refl) (λ a. refl)
    (faithful_then _ _ (faithful_number 0 255 32 (omega arith) refl)
    (λ _ _. faithful_then _ _ (faithful_number 1 999 32 (omega arith) refl)
    (λ _ _. faithful_then _ _ (faithful_number 1 38 32 (omega arith) refl)
    (λ _ _. faithful_then _ _ faithful_side
    (λ _ _. faithful_form)))))

pub faithful_count : (w : List ℕ) (low high : ℕ) → high < 2 ^ 64 → Faithful (count_text w low high)
unfolding count_text
faithful_count w low high small =
    faithful_line _ (faithful_dressed (λ p. p.1) (λ n. (tt, n)) (count_items w low high) (λ a h. refl) (λ n. refl)
    (faithful_then _ _ (faithful_item (keyword w) 32 (lawful_word (λ _. w) (tt ∷ [])) refl) (λ _ _. faithful_number low high 10 small refl)))

faithful_section : {A : Type 0} (C : Format ℕ) (F : ℕ → Format (List A)) → ((n : ℕ) (xs : List A) → (F n).Fits xs → length xs ≡ n) → Faithful C → ((n : ℕ) → Faithful (F n)) → Faithful (section C F)
faithful_section C F many c f =
    faithful_dressed (λ p. p.1) (λ xs. (length xs, xs)) (then C F) (λ a h. ap (λ n. (n, a.1)) (many a.0 a.1 h.1)) (λ xs. refl)
    (faithful_then C F c (λ n _. f n))

pub faithful_hours : Faithful hours_text
unfolding hours_text
faithful_hours =
    faithful_section _ tick_line (λ n xs h. h.0) (faithful_count (codes "hours") 24 24 (omega arith))
    (λ n. faithful_line _ (faithful_many tick_on (λ k. faithful_number 1 300000 (closing k) (omega arith) (closing_parts k)) n))

pub faithful_blocks : Faithful blocks_text
unfolding blocks_text
faithful_blocks =
    faithful_section _ (many set_line) (λ n xs h. h.0) (faithful_count (codes "blocks") 0 14 (omega arith))
    (λ n. faithful_many set_line (λ k. faithful_line _ (faithful_number 1 16777215 10 (omega arith) refl)) n)

pub faithful_orders : (n : ℕ) → Faithful (orders_text n)
unfolding orders_text
faithful_orders n =
    faithful_section _ (order_lines n) (λ n xs h. h.0) (faithful_count (codes "orders") 0 256 (omega arith))
    (λ m. faithful_staged (order_line n) booked (λ b. faithful_line _ (faithful_checked (line_rule n b) order_text faithful_order)) empty_book m)

-- what is read is what would be written, and what is written is read back, whatever follows it
pub faithful_day : Faithful day_text
unfolding day_text
faithful_day =
    faithful_dressed as_day (λ d. (d.references, (d.sets, d.orders))) day_items (λ a h. refl) (λ d. refl)
    (faithful_then _ _ faithful_hours (λ _ _. faithful_then _ _ faithful_blocks (λ sets _. faithful_orders (length sets))))
