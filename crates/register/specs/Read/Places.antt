-- Where the records of modules stand: one after another from a byte of the records buffer on.
use Rattle.std.specs.Prelude.{if◌then◌else◌, ◌≡◌, ℕ, ◌+◌, ◌*◌, ◌%◌, ◌≤◌, Bool, true, false, ◌&&◌, List, [], ◌∷◌, ◌++◌, length, nat_le, refl, Some, None}
use Rattle.std.proofs.Common.{sym, ap, subst, arith, length-append}
use Rattle.window.specs.Name.{is_name}
use Rattle.window.specs.Tests.{both}
use Rattle.register.specs.Words.{part}
use Rattle.register.specs.Module.{Module, named_ok, ascending, proper_module}
use Rattle.register.specs.Encode.{export_words, module_words}
use Rattle.register.specs.Decode.{read_module}
use Rattle.register.specs.CheckComplete.{length-export_words}
use Rattle.register.specs.Read.Read.{module_bytes, place_from, place_after, record_at, record_end, module_at, record_of, Sorted}

-- the words of a module do not depend on where its names stand
pub module_bytes_lem : (q : ℕ) (m : Module) → module_bytes m ≡ 4 * length (module_words q m)
unfolding module_bytes module_words
module_bytes_lem q m =
    let ex = export_words (q + length m.name) m.named in
    let l : length ex ≡ 3 * length m.named = length-export_words (q + length m.name) m.named in
    let a : length (m.segments ++ (ex ++ m.indexed)) ≡ length m.segments + (length ex + length m.indexed) =
    rw (length-append, length-append) in
    omega arith

-- the record of module m begins at byte `place`, and is whole
pub record RecordStands (records names : List ℕ) (place : ℕ) (m : Module) : Type 0 where
  pub offset : ℕ
  pub words : record_at records place ≡ record_of place offset m
  pub back : module_at records names place ≡ m
  pub inside : place + module_bytes m ≤ length records
  pub aligned : place % 4 ≡ 0
  pub proper : proper_module m ≡ true

pub stands_end : {records names : List ℕ} {place : ℕ} {m : Module} → RecordStands records names place m → record_end (record_at records place)
    ≡ place + module_bytes m
unfolding module_bytes
stands_end s = ap record_end s.words

pub stands_name
    : {records names : List ℕ} {place : ℕ} {m : Module} → RecordStands records names place m
    → part names (record_at records place).name_offset (record_at records place).name_length ≡ m.name
unfolding record_at module_at read_module
stands_name s = ap (λ (x : Module). x.name) s.back

pub sorted_at : {records names : List ℕ} {place : ℕ} {m : Module} → RecordStands records names place m → Sorted records names place
unfolding Sorted proper_module
sorted_at {m = m} s =
    let t : Bool = named_ok m.named && ascending m.named in
    let p = both (is_name m.name) (nat_le (length m.segments) 16 && t) s.proper in
    let q = both (nat_le (length m.segments) 16) t p.1 in
    rw s.back (both (named_ok m.named) (ascending m.named) q.1).1

-- the records of the modules, one after another
pub data RecordsStand (records names : List ℕ) : ℕ → List Module → Type 0 where
  none : {place : ℕ} → RecordsStand records names place []
  next
      : {place : ℕ} {m : Module} {ms : List Module} → RecordStands records names place m → RecordsStand records names (place + module_bytes m) ms
      → RecordsStand records names place (m ∷ ms)

-- a record by its position
pub stands_at
    : {records names : List ℕ} {place : ℕ} (before after : List Module) {m : Module}
    → RecordsStand records names place (before ++ (m ∷ after)) → RecordStands records names (place_after place before) m
unfolding place_after
stands_at {records = records} {names = names} {place = place} [] after {m = m} (next s r) = s
stands_at {records = records} {names = names} {place = place} (b ∷ before) after {m = m} (next s r) =
    stands_at {place = place + module_bytes b} before after r

-- the place of the first module that passes a test: that module, those before it, and that its record begins there
pub record FirstPassing (records names : List ℕ) (place : ℕ) (ms : List Module) (test : Module → Bool) (p : ℕ) : Type 0 where
  pub before : List Module
  pub found : Module
  pub after : List Module
  pub split : ms ≡ before ++ (found ∷ after)
  pub first : place_from place before test ≡ None
  pub passes : test found ≡ true
  pub at : p ≡ place_after place before
  pub stands : RecordStands records names p found

pub placed
    : {records names : List ℕ} (place : ℕ) (ms : List Module) (test : Module → Bool) {p : ℕ} → RecordsStand records names place ms
    → place_from place ms test ≡ Some p → FirstPassing records names place ms test p
unfolding place_from place_after
placed place [] test s e = let z : ◌≡◌ {A = ℕ} 0 1 = cc in absurd (omega arith)
placed {records} {names} place (m ∷ ms) test {p} (next s r) e = go (test m) refl e (placed (place + module_bytes m) ms test r)
  where
    go
        : (b : Bool) → test m ≡ b → (if b then Some place else place_from (place + module_bytes m) ms test) ≡ Some p
        → (place_from (place + module_bytes m) ms test ≡ Some p → FirstPassing records names (place + module_bytes m) ms test p)
        → FirstPassing records names place (m ∷ ms) test p
    go true t f ih =
        let q : place ≡ p = cc in
        record {
          before = [];
          found = m;
          after = ms;
          split = refl;
          first = refl;
          passes = t;
          at = sym q;
          stands = subst (λ x. RecordStands records names x m) q s;
        }
    go false t f ih =
        let i = ih f in
        record {
          before = m ∷ i.before;
          found = i.found;
          after = i.after;
          split = ap (λ l. m ∷ l) i.split;
          first = rw t i.first;
          passes = i.passes;
          at = i.at;
          stands = i.stands;
        }
