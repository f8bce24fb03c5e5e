-- From the code's steps to what they give.
use Rattle.std.proofs.Common.{◌≡◌, ℕ, ◌<◌, ◌≤◌, List, ap, ◌∙◌, le-ltb, lt-ltb, Option, Some, None}
use Rattle.window.specs.Memory.{word_at}
use Rattle.window.specs.Access.{run}
use Rattle.window.specs.Name.{name_at}
use Rattle.layout.specs.Header.{module_name_offset}
use Rattle.layout.specs.Segments.{field, field-word, tag_to_address}
use Rattle.register.specs.declared.append.draft.Draft.{Draft}
use Rattle.register.specs.Append.Draft.{given_up}
use Rattle.linker_spec.specs.Relocation.{address_or0}
use Rattle.linker.specs.Record.Read.{at_most16, own_name}
use Rattle.linker.specs.Record.Tried.{tried}

-- a step kept or given up

pub keep_or_give_up_full
    : (d : Draft) (after : Option Draft) (rs ns : List ℕ) {rs' ns' : List ℕ} → after ≡ None → ◌≡◌ {A = List ℕ × List ℕ} (rs', ns') (given_up rs ns d)
    → ◌≡◌ {A = Option Draft × List ℕ × List ℕ} (None, rs', ns') (tried d after rs ns)
unfolding tried
keep_or_give_up_full d after rs ns e f = rw e (ap (λ (t : List ℕ × List ℕ). (None, t.0, t.1)) f)

pub keep_or_give_up_open
    : (d : Draft) (after : Option Draft) (rs ns : List ℕ) (next : Draft) → after ≡ Some next
    → ◌≡◌ {A = Option Draft × List ℕ × List ℕ} (Some next, rs, ns) (tried d after rs ns)
unfolding tried
keep_or_give_up_open d after rs ns next e = rw e

pub at_most_lem : (n : ℕ) → 16 < n → 16 ≡ at_most16 n
unfolding at_most16
at_most_lem n h = rw (lt-ltb 16 n h)

pub at_most-all : (n : ℕ) → n ≤ 16 → n ≡ at_most16 n
unfolding at_most16
at_most-all n h = rw (le-ltb 16 n h)

pub own_name_lem : (at : ℕ) (w : List ℕ) (base : ℕ) {p : ℕ} → p ≡ (run at (field base module_name_offset) w).0 → (run at (name_at p) w).0 ≡ own_name at w base
own_name_lem at w base e = ap (λ p. (run at (name_at p) w).0) (e ∙ field-word at base module_name_offset w)

-- an address
pub indexed_at
    : (at : ℕ) (w : List ℕ) (base entry : ℕ) {tag : ℕ} {x : Option ℕ} → tag ≡ word_at at w entry → x ≡ (run at (tag_to_address base tag) w).0
    → address_or0 x ≡ address_or0 (run at (tag_to_address base (word_at at w entry)) w).0
indexed_at at w base entry et ex = ap address_or0 (ex ∙ ap (λ t. (run at (tag_to_address base t) w).0) et)
