-- Every call on a valid register leaves a valid register, whatever the lent bytes and the arguments: number 4's rule stays met.
use Rattle.std.specs.Prelude.{if◌then◌else◌, ℕ, suc, ◌+◌, ◌^◌, ◌≤◌, ◌<◌, ◌≡◌, List, [], ◌∷◌, ◌++◌, Bool, false, not, length, eqb, ltb, Option, Some, None, Ok, Err}
use Rattle.std.proofs.Math.Path.{refl, sym}
use Rattle.std.proofs.Common.{◌∙◌, arith, length-append, ltb-true}
use Rattle.std.proofs.Math.Bool.{true}
use Rattle.window.specs.Memory.{◌⊕◌, good_window}
use Rattle.window.specs.Access.{Prog, get32, run, length_run}
use Rattle.window.specs.Name.{is_name, name_at}
use Rattle.window.specs.Small.{run-bytes}
use Rattle.layout.specs.Header.{import_named_symbol_table_offset, import_named_symbol_num, import_named_symbol_entry_size, next_cro, previous_cro}
use Rattle.layout.specs.Segments.{field, set_field, entry_at}
use Rattle.register.specs.Module.{Module, Register, proper}
use Rattle.register.specs.Encode.{encode_words, crs_base}
use Rattle.register.specs.Proper.{proper-parts}
use Rattle.register.specs.CheckIs.{register-parts}
use Rattle.register.specs.Change.{appended, removed, without, with_crs}
use Rattle.register.specs.Buffers.{Below, names_are}
use Rattle.register.specs.Append.Stands.{encoded_small}
use Rattle.register.specs.Read.Read.{lookup_in}
use Rattle.register.specs.Change.Kept.{names_more}
use Rattle.linker_spec.specs.declared.rebase.LoadArguments.{LoadArguments}
use Rattle.linker_spec.specs.Refusal.{Rebased}
use Rattle.linker_spec.specs.Relocation.{reset_external_relocations}
use Rattle.linker_spec.specs.Exports.{read_module}
use Rattle.linker_spec.specs.Imports.{is_unresolved, most_missing, add_missing, import_named, apply_import_named_symbols, apply_module_imports, apply_exports_to_loaded}
use Rattle.linker_spec.specs.Resets.{reset_importers}
use Rattle.linker_spec.specs.Fix.{fix}
use Rattle.linker_spec.specs.Unrebase.{unrebase}
use Rattle.linker_spec.specs.Calls.{Answer, NotLoaded, Done, rebase, rebase_static, fits, add_record, initialized, initialize, listed, missing_now, linked, load, FirstWithBase, unknown, stands, first_with_base, unlisted, leave, unload, Refused}
use Rattle.linker_spec.specs.Outcome.{Buffers, register_after, outcome_of, refusal_order, call_outcome, initialize_outcome, load_outcome, unload_outcome}
use Rattle.linker_spec.specs.Refusals.{lent_register}
use Rattle.linker_spec.specs.AnyResult.{Yields, yields_ret, yields_bind, yields_then, yields_if, yields_loop}
use Rattle.linker_spec.specs.Room.{records-bytes, Fits, fits_means, with-stored}
use Rattle.linker_spec.specs.Removed.{removed-stored}
use Rattle.linker_spec.specs.Reads.{Is32Bit, Readable}
use Rattle.linker_spec.proofs.Recorded.{read_module_yields, name_yields}
use Rattle.linker_spec.specs.Valid.{AreBytes, LeavesRegister, MissingNames, Valid, ValidAfter}
use Rattle.linker_spec.specs.declared.refusal.Refusal.TheVariants.{NotACro, BadSegment, NoRoom}
use Rattle.linker_spec.specs.declared.refusal.RebaseError.{RebaseError}

noted-names : (s : Option ℕ) (name : List ℕ) (ns : List (List ℕ)) → is_name name ≡ true → MissingNames ns → MissingNames (add_missing s name ns)
unfolding add_missing
noted-names (Some a) name ns g h = h
noted-names None name ns g h = go (ltb (length ns) most_missing) refl
  where
    go : (t : Bool) → ltb (length ns) most_missing ≡ t → MissingNames (if t then ns ++ (name ∷ []) else ns)
    go true e =
        let l = ltb-true (length ns) most_missing e in
        let n = length-append ns (name ∷ []) in
        (omega arith, names_more ns name h.1 g)
    go false e = h

module _ (at : ℕ) where
  pub imports_yield
      : (ms : List Module) (base : ℕ) (ns : List (List ℕ)) → MissingNames ns → Yields at MissingNames (apply_import_named_symbols ms base ns)
  unfolding apply_import_named_symbols import_named
  imports_yield ms base ns h =
      yields_then at MissingNames (field base import_named_symbol_table_offset) _
      (λ table. yields_then at MissingNames (field base import_named_symbol_num) _
      (λ count. yields_loop at MissingNames _ (λ i xs k.
      let entry = entry_at table i import_named_symbol_entry_size in
      yields_then at MissingNames (get32 (entry ⊕ 4)) _
      (λ batch. yields_then at MissingNames (is_unresolved batch) _
      (λ unresolved. yields_if at MissingNames unresolved _ _
      (λ _. yields_then at MissingNames (get32 entry) _
      (λ p. yields_bind at (λ name. is_name name ≡ true) MissingNames (name_at p) _ (name_yields at p)
      (λ name g. yields_then at MissingNames _ _
      (λ _. yields_ret at MissingNames _ (noted-names (lookup_in ms name) name xs g k)))))
      (λ _. yields_ret at MissingNames xs k))))
      0 count ns h))

module _ (at records names : ℕ) (r : Register) (p : proper r ≡ true) (s : Below (2 ^ 32) (encode_words r)) where
  abbrev L : Answer → Type 0
  L a = LeavesRegister records names a

  enter_yields
      : (base size : ℕ) (auto : Bool) (next : Module → Prog Answer) → Is32Bit base → Is32Bit size
      → ((m : Module) → Readable at m → Fits records names r m → Yields at L (next m)) → (x : Rebased)
      → Yields at L (add_record records names r base size auto next x)
  unfolding add_record
  enter_yields base size auto next hb hs h (Err RebaseError.NotACro) = yields_ret at L (Refused NotACro) tt
  enter_yields base size auto next hb hs h (Err RebaseError.BadSegment) = yields_ret at L (Refused BadSegment) tt
  enter_yields base size auto next hb hs h (Ok _) =
      yields_then at L (reset_external_relocations base) _
      (λ _. yields_bind at (Readable at) L (read_module base size auto) _ (read_module_yields at base size auto hb hs)
      (λ m k. yields_if at L (fits records names r m) _ _ (λ f. h m k (fits_means records names r m f)) (λ _. yields_ret at L (Refused NoRoom) tt)))

  initialize_yields : (base size : ℕ) → Is32Bit base → Is32Bit size → Yields at L (initialize base size records names r)
  unfolding initialize initialized with_crs appended crs_base
  initialize_yields base size hb hs =
      let a = proper-parts r p in
      yields_then at L (rebase_static base) _
      (enter_yields base size true _ hb hs
      (λ m k f. yields_then at L (set_field base next_cro 0) _
      (λ _. yields_then at L (set_field base previous_cro 0) _
      (λ _. yields_ret at L (Done 0 (with_crs (appended r m) base))
      (with-stored records names r m p s f k.0 k.1 (Some base) r.missing hb a.few a.kept)))))

  crs-small : crs_base r.crs < 2 ^ 32
  unfolding encode_words
  crs-small = s 2

  load_yields : (l : LoadArguments) (auto : Bool) (level : ℕ) → Is32Bit l.base → Is32Bit l.size → Yields at L (load l auto level records names r)
  unfolding load linked missing_now appended
  load_yields l auto level hb hs =
      let a = proper-parts r p in
      yields_then at L (rebase l) _
      (enter_yields l.base l.size auto _ hb hs
      (λ m k f. yields_then at L (listed r.crs l.base auto) _
      (λ _. yields_bind at MissingNames L (apply_import_named_symbols (appended r m).modules l.base r.missing) _
      (imports_yield at (appended r m).modules l.base r.missing (a.few, a.kept))
      (λ ns g. yields_then at L (apply_module_imports (appended r m).modules l.base) _
      (λ _. yields_then at L (apply_exports_to_loaded m r.modules) _
      (λ _. yields_then at L (fix l.base l.size level) _
      (λ fixed. yields_ret at L (Done fixed (missing_now (appended r m) ns))
      (with-stored records names r m p s f k.0 k.1 r.crs ns crs-small g.0 g.1))))))))

-- the first module with a base is one of them
first-inside : (base : ℕ) (ms : List Module) (i k : ℕ) (m : Module) → first_with_base base ms i ≡ stands m k → (i ≤ k) × (k < i + length ms)
unfolding first_with_base
first-inside base [] i k m e = let z : ◌≡◌ {A = ℕ} 0 1 = cc in absurd (omega arith)
first-inside base (x ∷ ms) i k m e = go (eqb x.base base) e (first-inside base ms (suc i) k m)
  where
    go
        : (t : Bool) → (if t then stands x i else first_with_base base ms (suc i)) ≡ stands m k
        → (first_with_base base ms (suc i) ≡ stands m k → (suc i ≤ k) × (k < suc i + length ms)) → (i ≤ k) × (k < i + suc (length ms))
    go true q h = let z : i ≡ k = cc in (omega arith, omega arith)
    go false q h = let a = h q in (omega (arith, a.0), omega (arith, a.1))

module _ (b : Buffers) (v : Valid b) (t : AreBytes b) where
  abbrev lent : Register
  lent = lent_register b

  abbrev M : Answer → Type 0
  M a = LeavesRegister (length b.records) (length b.names) a

  unload_yields : (at base : ℕ) → Yields at M (unload base lent)
  unfolding unload leave
  unload_yields at base = go (first_with_base base lent.modules 0) refl
    where
      go : (x : FirstWithBase) → first_with_base base lent.modules 0 ≡ x → Yields at M (leave lent base x)
      go unknown e = yields_ret at M NotLoaded tt
      go (stands m k) e =
          yields_then at M (reset_importers m (without lent.modules k)) _
          (λ _. yields_then at M (unlisted lent.crs base) _
          (λ _. yields_then at M (unrebase base) _
          (λ _. yields_ret at M (Done 1 (removed lent k))
          (removed-stored b.records b.names b.missing v t.1 k (omega (arith, (first-inside base lent.modules 0 k m e).1))))))

  -- what an answer leaves
  after
      : (a : Answer) (w : List ℕ) → Below 256 w → length w ≡ length b.window → M a
      → ValidAfter b v t (register_after b w a)
  unfolding register_after
  after (Refused refusal) w h e l = (v, (h, t.1), (e, refl, refl, refl))
  after NotLoaded w h e l = (v, (h, t.1), (e, refl, refl, refl))
  after (Done x r) w h e l =
      let m = (names_are b.records b.names b.missing lent (register-parts b.records b.names b.missing v).1).2 in
      (l.0, (h, records-bytes (length b.records) r), (e, l.1.0, l.1.1, l.1.2 ∙ sym m))

  -- any call whose answers leave a register, on a window of bytes
  pub valid_after
      : (call : ℕ → ℕ → Register → Prog Answer) (at : ℕ)
      → Yields at (LeavesRegister (length b.records) (length b.names)) (call (length b.records) (length b.names) lent)
      → ValidAfter b v t (call_outcome call at b).left
  unfolding call_outcome outcome_of
  valid_after call at h = rw v (go (good_window at b.window))
    where
      x : Prog Answer
      x = call (length b.records) (length b.names) lent

      go : (g : Bool) → ValidAfter b v t (refusal_order g true b (outcome_of b (run at x b.window))).left
      go false = (v, t, (refl, refl, refl, refl))
      go true =
          after (run at x b.window).0 (run at x b.window).1 (run-bytes at x b.window t.0) (length_run at x b.window)
          (h b.window t.0)

  abbrev parts : (proper lent ≡ true) × Below (2 ^ 32) (encode_words lent)
  parts =
      let p = register-parts b.records b.names b.missing v in
      (p.0, encoded_small b.records b.names b.missing lent t.1 p.1)

  -- the three calls: whatever the arguments and the lent bytes, the register is valid again
  pub initialize_valid
      : (base size at : ℕ) → Is32Bit base → Is32Bit size
      → ValidAfter b v t (initialize_outcome base size at b).left
  unfolding initialize_outcome
  initialize_valid base size at hb hs =
      valid_after (initialize base size) at
      (initialize_yields at (length b.records) (length b.names) lent parts.0 parts.1 base size hb hs)

  pub load_valid
      : (l : LoadArguments) (auto level at : ℕ) → Is32Bit l.base → Is32Bit l.size
      → ValidAfter b v t (load_outcome l auto level at b).left
  unfolding load_outcome
  load_valid l auto level at hb hs =
      valid_after (load l (not (eqb auto 0)) level) at
      (load_yields at (length b.records) (length b.names) lent parts.0 parts.1 l (not (eqb auto 0)) level hb hs)

  pub unload_valid : (base at : ℕ) → ValidAfter b v t (unload_outcome base at b).left
  unfolding unload_outcome
  unload_valid base at = valid_after (λ records names. unload base) at (unload_yields at base)
