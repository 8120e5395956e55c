-- A script of which some lines are read: what the rest comes to, after them, is what all of it comes to.
use Rattle.std.proofs.Common.{◌≡◌, ℕ, suc, List, [], ◌∷◌, ◌++◌, map, length, Some, vec_items, codes, Option, sym, refl, ap, ◌∙◌, subst}
use Rattle.std.proofs.lemmas.List.{append_assoc, append-nil, map_push, length-map}
use Rattle.faults.specs.declared.fault.Fault.{Fault}
use Rattle.text.specs.declared.reader.Reader.{Reader}
use Rattle.text.specs.Format.{got, refused}
use Rattle.text.specs.Tokens.{ahead}
use Rattle.dayfile.specs.Day.{count_text}
use Rattle.calls.specs.declared.calls.Call.{Call}
use Rattle.calls.specs.Moves.{move_of}
use Rattle.callfile.specs.declared.scripts.Script.{Script as Held}
use Rattle.callfile.specs.Calls.{call_line}
use Rattle.callfile.specs.Scripts.{Script, ending, stepping, leftover, going, script_of, calls_of, Scripted}

pub record Sofar (ls : List ℕ) (cs : List Call) (rest all : Script) : Type 0 where
  pub lines : ls ++ map (λ x. x.0) rest.steps ≡ map (λ x. x.0) all.steps
  pub calls : map move_of cs ++ map (λ x. x.1) rest.steps ≡ map (λ x. x.1) all.steps
  pub fault : rest.fault ≡ all.fault

pub sofar_none : (ls : List ℕ) (cs : List Call) (t : Script) → ls ≡ [] → cs ≡ [] → Sofar ls cs t t
sofar_none ls cs t e h = record {
  lines = ap (λ xs. xs ++ map (λ x. x.0) t.steps) e;
  calls = ap (λ xs. map move_of xs ++ map (λ x. x.1) t.steps) h;
  fault = refl;
}

pub sofar_end : (s : Held) (all : Script) → Sofar (vec_items s.lines) (vec_items s.calls) (ending s.fault) all → Scripted s all
sofar_end s all h = record {
  lines = sym (append-nil (vec_items s.lines)) ∙ h.lines;
  calls = sym (append-nil (map move_of (vec_items s.calls))) ∙ h.calls;
  fault = h.fault;
}

-- nothing was read
pub sofar_unread : (s : Held) (all : Script) → ending s.fault ≡ all → vec_items s.lines ≡ [] → vec_items s.calls ≡ [] → Scripted s all
sofar_unread s all e l c = subst (λ (t : Script). Scripted s t) e (sofar_end s (ending s.fault) (sofar_none (vec_items s.lines) (vec_items s.calls) (ending s.fault) l c))

-- n lines are still to be read at s, after ls and cs
module _ (ls : List ℕ) (cs : List Call) (n : ℕ) (s : Reader) (all : Script) (h : Sofar ls cs (script_of n s.at (ahead s)) all) where
  -- none is left
  pub sofar_done : (f : Option Fault) → f ≡ leftover s.at (ahead s) → n ≡ 0 → Sofar ls cs (ending f) all
  unfolding script_of
  sofar_done f r e = subst (λ (g : Option Fault). Sofar ls cs (ending g) all) (sym r) (subst (λ (k : ℕ). Sofar ls cs (script_of k s.at (ahead s)) all) e h)

  module _ (k : ℕ) (e : n ≡ suc k) where
    opened : Sofar ls cs (going (call_line.read 0 s.at (ahead s)) (λ m q ds. stepping (s.at, m) (script_of k q ds))) all
    unfolding script_of
    opened = subst (λ (k : ℕ). Sofar ls cs (script_of k s.at (ahead s)) all) e h

    -- the next was refused
    pub sofar_no : (f : Fault) → refused f ≡ call_line.read 0 s.at (ahead s) → Sofar ls cs (ending (Some f)) all
    sofar_no f r = subst (λ o. Sofar ls cs (going o (λ m q ds. stepping (s.at, m) (script_of k q ds))) all) (sym r) opened

    -- the next is x, and led from s to t
    pub sofar_on : (t : Reader) (x : Call) (ls' : List ℕ) (cs' : List Call) → got (move_of x) t.at (ahead t) ≡ call_line.read 0 s.at (ahead s) → ls' ≡ ls ++ (s.at ∷ []) → cs' ≡ cs ++ (x ∷ []) → Sofar ls' cs' (script_of k t.at (ahead t)) all
    sofar_on t x ls' cs' r el ec =
        let rest = script_of k t.at (ahead t) in
        let o : Sofar ls cs (stepping (s.at, move_of x) rest) all = subst (λ o. Sofar ls cs (going o (λ m q ds. stepping (s.at, m) (script_of k q ds))) all) (sym r) opened in
        record {
          lines = ap (λ xs. xs ++ map (λ x. x.0) rest.steps) el ∙ append_assoc ls (s.at ∷ []) (map (λ x. x.0) rest.steps) ∙ o.lines;
          calls = ap (λ xs. map move_of xs ++ map (λ x. x.1) rest.steps) ec ∙ ap (λ ms. ms ++ map (λ x. x.1) rest.steps) (map_push move_of cs x) ∙ append_assoc (map move_of cs) (move_of x ∷ []) (map (λ x. x.1) rest.steps) ∙ o.calls;
          fault = o.fault;
        }

-- as many lines as calls
pub even : (s : Held) (t : Script) → Scripted s t → length (vec_items s.lines) ≡ length (vec_items s.calls)
even s t h =
    ap length h.lines ∙ length-map t.steps (λ x. x.0) ∙ sym (length-map t.steps (λ x. x.1)) ∙ sym (ap length h.calls)
    ∙ length-map (vec_items s.calls) move_of

-- the count is n, and it led from s to t; or it was refused
pub counted : (s t : Reader) (n : ℕ) → got n t.at (ahead t) ≡ (count_text (codes "calls") 0 4096).read 0 s.at (ahead s) → script_of n t.at (ahead t) ≡ calls_of s.at (ahead s)
unfolding calls_of
counted s t n e = ap (λ o. going o script_of) e

pub uncounted : (s : Reader) (f : Fault) → refused f ≡ (count_text (codes "calls") 0 4096).read 0 s.at (ahead s) → ending (Some f) ≡ calls_of s.at (ahead s)
unfolding calls_of
uncounted s f e = ap (λ o. going o script_of) e
