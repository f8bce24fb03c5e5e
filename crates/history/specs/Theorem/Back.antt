-- The register that a call answers is read back from the bytes that it leaves.
use Rattle.std.specs.Prelude.{ℕ, ◌+◌, ◌*◌, ◌^◌, ◌<◌, ◌≡◌, refl, List, Bool, length, take, Option, Some, Ok, Err}
use Rattle.std.proofs.Common.{ap, ◌∙◌, subst, arith}
use Rattle.std.proofs.Math.Bool.{true}
use Rattle.window.specs.Access.{Prog}
use Rattle.layout.specs.Header.{next_cro, previous_cro}
use Rattle.layout.specs.Segments.{set_field}
use Rattle.register.specs.Module.{Module, Register, proper}
use Rattle.register.specs.Encode.{record_words, encode_words, crs_base, slots}
use Rattle.register.specs.Decode.{register_of, is_register}
use Rattle.register.specs.Proper.{proper-parts, parts-proper}
use Rattle.register.specs.CheckIs.{register-parts}
use Rattle.register.specs.Change.{appended, removed, with_crs}
use Rattle.register.specs.Buffers.{Below, padded, names_are, encode_records, encode_names, encode_missing}
use Rattle.register.specs.Append.Draft.{room-inside}
use Rattle.register.specs.Append.Stands.{appended-proper}
use Rattle.register.specs.Change.Remove.{RecordOfRegister, remaining}
use Rattle.register.specs.Change.Left.{remove_kept}
use Rattle.linker_spec.specs.declared.rebase.LoadArguments.{LoadArguments}
use Rattle.linker_spec.specs.Refusal.{Rebased}
use Rattle.linker_spec.specs.Relocation.{reset_external_relocations}
use Rattle.linker_spec.specs.Exports.{read_module}
use Rattle.linker_spec.specs.Imports.{apply_import_named_symbols, apply_module_imports, apply_exports_to_loaded}
use Rattle.linker_spec.specs.Fix.{fix}
use Rattle.linker_spec.specs.Calls.{Answer, NotLoaded, Done, rebase, rebase_static, fits, add_record, initialized, initialize, listed, missing_now, linked, load, Refused}
use Rattle.linker_spec.specs.AnyResult.{Yields, yields_ret, yields_bind, yields_then, yields_if}
use Rattle.linker_spec.specs.Room.{Fits, fits_means, with, with-small}
use Rattle.linker_spec.specs.Valid.{MissingNames}
use Rattle.linker_spec.proofs.Valid.{imports_yield}
use Rattle.linker_spec.specs.Reads.{Readable}
use Rattle.linker_spec.proofs.Recorded.{read_module_yields}
use Rattle.linker_spec.specs.declared.refusal.Refusal.TheVariants.{NotACro, BadSegment, NoRoom}
use Rattle.linker_spec.specs.declared.refusal.RebaseError.{RebaseError}
use Rattle.history.specs.Sessions.Answers.{encoded-back}

abbrev pub Back : ℕ → ℕ → Register → Type 0
Back records names s = register_of (encode_records records s) (encode_names names s) (encode_missing s) ≡ s

abbrev pub Backs : ℕ → ℕ → Answer → Type 0
Backs records names (Refused refusal) = Unit {0}
Backs records names NotLoaded = Unit {0}
Backs records names (Done v s) = Back records names s

module _ (at records names : ℕ) (r : Register) (p : proper r ≡ true) (s : Below (2 ^ 32) (encode_words r)) where
  abbrev L : Answer → Type 0
  L a = Backs records names a

  -- a module more
  with-back
      : (m : Module) → Readable at m → (f : Fits records names r m) (c : Option ℕ) (missing : List (List ℕ)) → crs_base c < 2 ^ 32 → MissingNames missing
      → Back records names (record { modules = (appended r m).modules; crs = c; missing = missing })
  unfolding encode_words appended
  with-back m k f c missing hc h =
      let a = proper-parts (appended r m) (appended-proper r m p k.0 f.few) in
      let x : Register = with records names r m p s f k.0 k.1 c missing hc in
      encoded-back records names x
      (parts-proper x (record { count = a.count; modules = a.modules; few = h.0; kept = h.1 }))
      (let g = f.words in omega (arith, room-inside records)) (with-small records names r m p s f k.0 k.1 c missing hc h.0)

  enter_back
      : (base size : ℕ) (auto : Bool) (next : Module → Prog Answer) → base < 2 ^ 32 → size < 2 ^ 32
      → ((m : Module) → Readable at m → Fits records names r m → Yields at L (next m)) → (x : Rebased)
      → Yields at L (add_record records names r base size auto next x)
  unfolding add_record
  enter_back base size auto next hb hs h (Err RebaseError.NotACro) = yields_ret at L (Refused NotACro) tt
  enter_back base size auto next hb hs h (Err RebaseError.BadSegment) = yields_ret at L (Refused BadSegment) tt
  enter_back base size auto next hb hs h (Ok _) =
      yields_then at L (reset_external_relocations base) _
      (λ _. yields_bind at (Readable at) L (read_module base size auto) _ (read_module_yields at base size auto hb hs)
      (λ m k. yields_if at L (fits records names r m) _ _ (λ f. h m k (fits_means records names r m f)) (λ _. yields_ret at L (Refused NoRoom) tt)))

  pub initialize-back : (base size : ℕ) → base < 2 ^ 32 → size < 2 ^ 32 → Yields at L (initialize base size records names r)
  unfolding initialize initialized with_crs appended crs_base
  initialize-back base size hb hs =
      let a = proper-parts r p in
      yields_then at L (rebase_static base) _
      (enter_back base size true _ hb hs
      (λ m k f. yields_then at L (set_field base next_cro 0) _
      (λ _. yields_then at L (set_field base previous_cro 0) _
      (λ _. yields_ret at L (Done 0 (with_crs (appended r m) base)) (with-back m k f (Some base) r.missing hb (a.few, a.kept))))))

  crs-small : crs_base r.crs < 2 ^ 32
  unfolding encode_words
  crs-small = s 2

  pub load-back : (l : LoadArguments) (auto : Bool) (level : ℕ) → l.base < 2 ^ 32 → l.size < 2 ^ 32 → Yields at L (load l auto level records names r)
  unfolding load linked missing_now appended
  load-back l auto level hb hs =
      let a = proper-parts r p in
      yields_then at L (rebase l) _
      (enter_back l.base l.size auto _ hb hs
      (λ m k f. yields_then at L (listed r.crs l.base auto) _
      (λ _. yields_bind at MissingNames L (apply_import_named_symbols (appended r m).modules l.base r.missing) _
      (imports_yield at (appended r m).modules l.base r.missing (a.few, a.kept))
      (λ ns g. yields_then at L (apply_module_imports (appended r m).modules l.base) _
      (λ _. yields_then at L (apply_exports_to_loaded m r.modules) _
      (λ _. yields_then at L (fix l.base l.size level) _
      (λ fixed. yields_ret at L (Done fixed (missing_now (appended r m) ns)) (with-back m k f r.crs ns crs-small g))))))))

-- a module less
pub unload-back
    : (records names missing : List ℕ) → is_register records names missing ≡ true → Below 256 records → (k : ℕ)
    → k < length (register_of records names missing).modules → Back (length records) (length names) (removed (register_of records names missing) k)
unfolding remaining removed encode_missing
unload-back records names missing v t k h =
    let r = register_of records names missing in
    let m = names_are records names missing r (register-parts records names missing v).1 in
    let a : missing ≡ padded 32896 (slots r.missing) = m.1 ∙ ap (λ n. padded n (slots r.missing)) m.2 in
    let leaving : RecordOfRegister records names (32 + 4 * length (record_words 0 (take k r.modules))) =
    record { missing = missing; number = k; holds = v; below = h; there = refl } in
    subst
    (λ x. register_of (encode_records (length records) (removed r k)) (encode_names (length names) (removed r k)) x ≡ removed r k) a
    (remove_kept t leaving).1
