-- Changes of the abstract register.
pub mod Bytes
pub mod Lower
pub mod Encoded
pub mod Kept
pub mod Remove
pub mod Left
use Rattle.std.specs.declared.cmp.Ordering.{Ordering}
use Rattle.std.specs.declared.cmp.Ordering.TheVariants.{Less, Equal, Greater}
use Rattle.std.specs.Prelude.{if◌then◌else◌, ℕ, zero, suc, ◌+◌, Bool, List, [], ◌∷◌, ◌++◌, length, nat_lt, Some}
use Rattle.window.specs.Name.{order_of}
use Rattle.register.specs.Module.{Export, Module, Register}

-- a module with its name and nothing else yet
unfoldable pub new_module : ℕ → ℕ → Bool → List ℕ → Module
new_module base size auto name =
    record { base = base; size = size; auto = auto; name = name; segments = []; named = []; indexed = [] }

unfoldable pub with_segment : Module → ℕ → Module
with_segment m a =
    record {
      base = m.base;
      size = m.size;
      auto = m.auto;
      name = m.name;
      segments = m.segments ++ (a ∷ []);
      named = m.named;
      indexed = m.indexed;
    }

unfoldable pub with_indexed : Module → ℕ → Module
with_indexed m a =
    record {
      base = m.base;
      size = m.size;
      auto = m.auto;
      name = m.name;
      segments = m.segments;
      named = m.named;
      indexed = m.indexed ++ (a ∷ []);
    }

-- one of three, as a name stands before another, is the same or stands after it
unfoldable pub by_order : {A : Type 0} → Ordering → (before same after : A) → A
by_order Less b s a = b
by_order Equal b s a = s
by_order Greater b s a = a

-- "A later export of the same name replaces an earlier one"; a new one stands before the first whose name comes after its own (request 5)
unfoldable pub put_named : List Export → List ℕ → ℕ → List Export
put_named [] name a = record { name = name; address = a } ∷ []
put_named (x ∷ xs) name a =
    by_order (order_of name x.name)
    (record { name = name; address = a } ∷ x ∷ xs)
    (record { name = x.name; address = a } ∷ xs)
    (x ∷ put_named xs name a)

-- with these named exports
unfoldable pub with_named : Module → List Export → Module
with_named m xs =
    record { base = m.base; size = m.size; auto = m.auto; name = m.name; segments = m.segments; named = xs; indexed = m.indexed }

-- the register with a module after the last one
unfoldable pub appended : Register → Module → Register
appended r m = record { modules = r.modules ++ (m ∷ []); crs = r.crs; missing = r.missing }

-- "An unload closes the gap": without module number k
unfoldable pub without : List Module → ℕ → List Module
without [] k = []
without (m ∷ ms) zero = ms
without (m ∷ ms) (suc k) = m ∷ without ms k

unfoldable pub removed : Register → ℕ → Register
removed r k = record { modules = without r.modules k; crs = r.crs; missing = r.missing }

unfoldable pub with_crs : Register → ℕ → Register
with_crs r base = record { modules = r.modules; crs = Some base; missing = r.missing }

-- "Missing names stop at 64"
unfoldable pub with_missing : Register → List ℕ → Register
with_missing r name =
    record { modules = r.modules; crs = r.crs; missing = if nat_lt (length r.missing) 64 then r.missing ++ (name ∷ []) else r.missing }
