-- What a register's record says of the module that it was read from.
use Rattle.std.specs.Prelude.{ℕ, ◌≡◌, List, true, Option}
use Rattle.register.specs.Module.{Module}
use Rattle.register.specs.Read.Read as read
use Rattle.linker_spec.specs.Imports as imports
use Rattle.history.specs.Image.{name_of, module_name}
use Rattle.history.specs.LoadedModule.{Image, base_of, export_of, indexed_of, anonymous_of}
use Rattle.history.specs.Imports.{Import, named, indexed, anonymous, wanted, From}

pub record Recorded (x : Image) (r : Module) : Type 0 where
  pub base : r.base ≡ base_of x.load_call
  pub name : r.name ≡ module_name x.file
  pub auto : r.auto ≡ true
  pub exports : (name : List ℕ) → read.export_of r name ≡ export_of x name
  pub indexes : (i : ℕ) → read.entry_of r.indexed i ≡ indexed_of x i
  pub anonymous : (t : ℕ) → imports.anonymous_of r t ≡ anonymous_of x t

-- what x has for import i of m
unfoldable pub export_for : Image → Image → Import → Option ℕ
export_for x m (named i) = export_of x (name_of m.file (wanted m.file (named i)))
export_for x m (indexed i) = indexed_of x (wanted m.file (indexed i))
export_for x m (anonymous i) = anonymous_of x (wanted m.file (anonymous i))

-- import i of m asks x: any by name may, one by index or tag does where its module entry names x
unfoldable pub ImportsFrom : Image → Image → Import → Type 0
ImportsFrom x m (named i) = Unit {0}
ImportsFrom x m (indexed i) = From m.file (indexed i) (module_name x.file)
ImportsFrom x m (anonymous i) = From m.file (anonymous i) (module_name x.file)
