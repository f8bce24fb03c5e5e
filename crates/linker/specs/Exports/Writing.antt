-- A record that is being written on buffers that encode a register: it holds a module, or the module has no room and nothing changed.
use Rattle.std.specs.Prelude.{◌≡◌, ℕ, ◌+◌, ◌*◌, ◌^◌, ◌<◌, ◌≤◌, Bool, true, false, ◌&&◌, leb, List, [], ◌∷◌, ◌++◌, length, nat_le, nat_lt, Option, Some, None}
use Rattle.std.proofs.Math.Path.{refl, ap}
use Rattle.std.proofs.Common.{sym, ◌∙◌, subst, arith}
use mathlib.Core.List.{append-nil}
use Rattle.std.proofs.Math.Decide.{dec_le}
use Rattle.std.proofs.Math.ListN.{length-append}
use Rattle.std.proofs.lemmas.List.Edits.{sets}
use Rattle.std.proofs.Math.Seq.{length-sets}
use borrow.Author.Tests.{lt-ltb, ltb-true, leb-true, le-leb, lt-leb}
use Rattle.window.specs.Word.{set_word_in}
use Rattle.window.specs.Tests.{both, also}
use Rattle.register.specs.Words.{flat}
use Rattle.register.specs.Module.{Export, Module, Register, proper, proper_module}
use Rattle.register.specs.Encode.{export_words, export_names, module_names, module_words, record_words, record_names, encode_words}
use Rattle.register.specs.Decode.{encodes, is_register, register_of}
use Rattle.register.specs.Change.{new_module, with_segment, with_indexed, with_named, appended}
use Rattle.register.specs.Buffers.{Below, length-flat, encode_records, encode_names}
use Rattle.register.specs.declared.append.draft.Draft.{Draft}
use Rattle.register.specs.Append.Draft.{room_in, room-inside, longer, push_listed, draft_at, begin_record, finish_record, given_up}
use Rattle.register.specs.Append.Held.{Held, words_long, names-named}
use Rattle.register.specs.Append.Steps.{listed_none, step-segment, step_indexed, step-named}
use Rattle.register.specs.Append.Append.{words-with, finished, finished_names, given_up_lem, begun, not-begun}
use Rattle.register.specs.Append.Stands.{stands, still_register}
use Rattle.linker_spec.specs.Calls.{fits}
use Rattle.linker_spec.specs.Fit.{names_of}
use Rattle.linker.specs.Record.Tried.{tried}

-- buffers that encode a register
pub record Ground : Type 0 where
  pub records : List ℕ
  pub names : List ℕ
  pub missing : List ℕ
  pub register : Register
  pub right : proper register ≡ true
  pub holds : encodes records names missing register ≡ true
  pub bytes : Below 256 records

-- the record bytes and the name bytes in use
abbrev pub used : Ground → ℕ
used g = 4 * length (encode_words g.register)

abbrev pub named : Ground → ℕ
named g = length (record_names g.register.modules)

-- room for a module after the last one
unfoldable pub roomy : Ground → Module → Bool
roomy g m =
    nat_lt (length g.register.modules) 64
    && (nat_le (used g + 4 * length (module_words (named g) m)) (room_in (length g.records))
    && nat_le (named g + length (module_names m)) (room_in (length g.names)))

-- the draft, and what the two buffers then are
unfoldable pub Writing : Ground → Module → Option Draft → List ℕ → List ℕ → Type 0
Writing g m (Some d) rs ns =
    Held g.records g.names d m rs ns × (d.start ≡ used g) × (d.names ≡ named g) × (length g.register.modules < 64)
Writing g m None rs ns = (rs ≡ g.records) × (ns ≡ g.names) × (roomy g m ≡ false)

pub writing_is
    : (g : Ground) (m : Module) {r : Option Draft} {rs ns : List ℕ} {x : Option Draft × List ℕ × List ℕ} → ◌≡◌ {A = Option Draft × List ℕ × List ℕ} (r, rs, ns) x
    → Writing g m x.0 x.1 x.2 → Writing g m r rs ns
writing_is g m e h = subst (λ (t : Option Draft × List ℕ × List ℕ). Writing g m t.0 t.1 t.2) (sym e) h

-- the whole register with the module in it has room exactly if the module has

length_encode : (r : Register) → length (encode_words r) ≡ 8 + length (record_words 0 r.modules)
unfolding encode_words
length_encode r = omega arith

length-words : (g : Ground) (m : Module) → 4 * length (encode_words (appended g.register m)) ≡ used g + 4 * length (module_words (named g) m)
unfolding appended
length-words g m =
    let ms = g.register.modules in
    let a = length_encode (appended g.register m) in
    let b = length_encode g.register in
    let c : length (record_words 0 (ms ++ (m ∷ []))) ≡ length (record_words 0 ms) + length (module_words (named g) m) =
    ap length (words-with ms m) ∙ length-append (record_words 0 ms) (module_words (named g) m) in
    omega arith

pub fits-roomy : (g : Ground) (m : Module) → fits (length g.records) (length g.names) g.register m ≡ roomy g m
unfolding fits roomy
fits-roomy g m = rw (length-words g m, names_of g.register m)

-- where there is no room

pub and_no : (t : Bool) → (t && false) ≡ false
and_no true = refl
and_no false = refl

pub no_words : (g : Ground) (m : Module) → room_in (length g.records) < used g + 4 * length (module_words (named g) m) → roomy g m ≡ false
unfolding roomy
no_words g m h = rw (lt-leb _ _ h) (and_no (nat_lt (length g.register.modules) 64))

and-false : (a b : Bool) → (a && b) ≡ false → (c : Bool) → (c ≡ true → b ≡ true) → (a && c) ≡ false
and-false true b e true f = let z : ◌≡◌ {A = Bool} true false = sym (f refl) ∙ e in z
and-false true b e false f = refl
and-false false b e c f = refl

-- a module that is not smaller has none either
pub record Grows (g : Ground) (m m' : Module) : Type 0 where
  pub words : length (module_words (named g) m) ≤ length (module_words (named g) m')
  pub bytes : length (module_names m) ≤ length (module_names m')

pub none_greater : (g : Ground) (m m' : Module) → Grows g m m' → roomy g m ≡ false → roomy g m' ≡ false
unfolding roomy
none_greater g m m' h e =
    let w : Module → Bool = λ x. leb (used g + 4 * length (module_words (named g) x)) (room_in (length g.records)) in
    let b : Module → Bool = λ x. leb (named g + length (module_names x)) (room_in (length g.names)) in
    and-false (nat_lt (length g.register.modules) 64) (w m && b m) e (w m' && b m')
    (λ y. let a = both (w m') (b m') y in
    also
    (le-leb (used g + 4 * length (module_words (named g) m)) (room_in (length g.records))
    (omega (arith, h.words, leb-true (used g + 4 * length (module_words (named g) m')) (room_in (length g.records)) a.0)))
    (le-leb (named g + length (module_names m)) (room_in (length g.names))
    (omega (arith, h.bytes, leb-true (named g + length (module_names m')) (room_in (length g.names)) a.1))))

-- the words of a module with one thing more

more-segment : (q : ℕ) (m : Module) (a : ℕ) → length (module_words q (with_segment m a)) ≡ length (module_words q m) + 1
unfolding with_segment
more-segment q m a =
    let n : length (m.segments ++ (a ∷ [])) ≡ length m.segments + 1 = length-append m.segments (a ∷ []) in
    omega (arith, words_long q m, words_long q (with_segment m a))

more_indexed : (q : ℕ) (m : Module) (a : ℕ) → length (module_words q (with_indexed m a)) ≡ length (module_words q m) + 1
unfolding with_indexed
more_indexed q m a =
    let n : length (m.indexed ++ (a ∷ [])) ≡ length m.indexed + 1 = length-append m.indexed (a ∷ []) in
    omega (arith, words_long q m, words_long q (with_indexed m a))

module _ (g : Ground) (m : Module) (d : Draft) (rs ns : List ℕ) (h : Writing g m (Some d) rs ns) where
  -- what the draft says of the module
  pub held : Held g.records g.names d m rs ns
  unfolding Writing
  held = h.0

  pub starts : d.start ≡ used g
  unfolding Writing
  starts = h.1

  pub begins : d.names ≡ named g
  unfolding Writing
  begins = h.2

  few : length g.register.modules < 64
  unfolding Writing
  few = h.3

  pub ends : d.end ≡ used g + 4 * length (module_words (named g) m)
  ends = held.end ∙ rw (starts, begins)

  lasts : d.last ≡ named g + length (module_names m)
  lasts = held.last ∙ rw begins

  pub same-room : length rs ≡ length g.records
  same-room = ap length held.words ∙ length-sets g.records d.start (flat (module_words d.names m))

  -- it has room
  pub holding : roomy g m ≡ true
  unfolding roomy
  holding =
      also (lt-ltb (length g.register.modules) 64 few)
      (also (le-leb (used g + 4 * length (module_words (named g) m)) (room_in (length g.records)) (omega (arith, ends, held.room)))
      (le-leb (named g + length (module_names m)) (room_in (length g.names)) (omega (arith, lasts, held.name-room))))

  -- given up
  pub gone : (m' : Module) → roomy g m' ≡ false → Writing g m' None (given_up rs ns d).0 (given_up rs ns d).1
  unfolding Writing
  gone m' e =
      let x = flat (module_words d.names m) in
      let lx : length x ≡ 4 * length (module_words d.names m) = length-flat (module_words d.names m) in
      let z =
      given_up_lem g.records g.names g.missing g.register g.right g.holds g.bytes d x (module_names m) rs ns starts begins
      held.words held.bytes (omega (arith, held.end, lx)) (omega (arith, held.last))
      (omega (arith, held.room, room-inside (length g.records))) (omega (arith, held.name-room, room-inside (length g.names))) in
      (ap (λ t. t.0) z, ap (λ t. t.1) z, e)

  kept : (d' : Draft) (m' : Module) (rs' ns' : List ℕ) → Held g.records g.names d' m' rs' ns' → d'.start ≡ d.start → d'.names ≡ d.names
      → Writing g m' (Some d') rs' ns'
  unfolding Writing
  kept d' m' rs' ns' k s n = (k, s ∙ starts, n ∙ begins, few)

  -- finished: the register with the module in it
  pub finishes
      : (finish_record rs d ≡ encode_records (length g.records) (appended g.register m))
      × (ns ≡ encode_names (length g.names) (appended g.register m))
  finishes = (
    finished g.records g.names g.missing g.register g.right g.holds g.bytes d m rs ns held starts begins few,
    finished_names g.records g.names g.missing g.register g.right g.holds g.bytes d m rs ns held starts begins,
  )

  -- and a register again
  pub stays
      : proper_module m ≡ true
      → (is_register (finish_record rs d) ns g.missing ≡ true)
      × (register_of (finish_record rs d) ns g.missing ≡ appended g.register m)
  stays p = (
    still_register g.records g.names g.missing g.register g.right g.holds g.bytes d m rs ns held starts begins few p,
    stands g.records g.names g.missing g.register g.right g.holds g.bytes d m rs ns held starts begins few p,
  )

  -- an address more, in word `field`
  listed
      : (field a : ℕ) (m' : Module) (after : List ℕ)
      → (d.end + 4 ≤ room_in (length g.records)
      → (push_listed rs d field a ≡ (Some (longer d 4), after)) × Held g.records g.names (longer d 4) m' after ns)
      → length (module_words (named g) m') ≡ length (module_words (named g) m) + 1
      → Writing g m' (tried d (push_listed rs d field a).0 (push_listed rs d field a).1 ns).0
      (tried d (push_listed rs d field a).0 (push_listed rs d field a).1 ns).1
      (tried d (push_listed rs d field a).0 (push_listed rs d field a).1 ns).2
  unfolding tried longer
  listed field a m' after step more = elim (dec_le (d.end + 4) (room_in (length g.records))) [
    | yes l ↦ let s = step l in rw s.0 (kept (longer d 4) m' after ns s.1 refl refl)
    | no l ↦ let e = listed_none g.records g.names d m rs ns held field a (omega arith) in
        rw e (gone m' (no_words g m' (omega (arith, ends, more))))
  ]

  abbrev pushed : ℕ → ℕ → Option Draft × List ℕ × List ℕ
  pushed field a = tried d (push_listed rs d field a).0 (push_listed rs d field a).1 ns

  pub segment-tried
      : (a : ℕ) → a < 2 ^ 32 → m.named ≡ [] → m.indexed ≡ []
      → Writing g (with_segment m a) (pushed 5 a).0 (pushed 5 a).1 (pushed 5 a).2
  segment-tried a k e f =
      listed 5 a (with_segment m a) (sets g.records d.start (flat (module_words d.names (with_segment m a))))
      (λ l. step-segment g.records g.names d m rs ns held a k e f l)
      (more-segment (named g) m a)

  pub indexed_tried : (a : ℕ) → a < 2 ^ 32 → Writing g (with_indexed m a) (pushed 7 a).0 (pushed 7 a).1 (pushed 7 a).2
  indexed_tried a k =
      listed 7 a (with_indexed m a) (sets g.records d.start (flat (module_words d.names (with_indexed m a))))
      (λ l. step_indexed g.records g.names d m rs ns held a k l)
      (more_indexed (named g) m a)

  -- all named exports at once, after a record without exports

  module _ (none : m.named ≡ []) (no_indexed : m.indexed ≡ []) (xs : List Export) where
    pub roomy-named
        : roomy g (with_named m xs)
        ≡ (nat_lt (length g.register.modules) 64
        && (nat_le (d.end + 12 * length xs) (room_in (length g.records))
        && nat_le (d.last + length (export_names xs)) (room_in (length g.names))))
    unfolding roomy with_named
    roomy-named =
        let q = named g in
        let a : length m.named ≡ 0 = ap length none in
        let w : used g + 4 * length (module_words q (with_named m xs)) ≡ d.end + 12 * length xs =
        omega (arith, ends, words_long q m, words_long q (with_named m xs)) in
        let l : length (module_names (with_named m xs)) ≡ length (module_names m) + length (export_names xs) =
        ap length (names-named q m xs none) ∙ length-append (module_names m) (export_names xs) in
        let n : named g + length (module_names (with_named m xs)) ≡ d.last + length (export_names xs) = omega (arith, lasts, l) in
        rw (w, n)

    pub named-written
        : (last : Draft) → last.start ≡ d.start → last.names ≡ d.names → last.end ≡ d.end + 12 * length xs
        → last.last ≡ d.last + length (export_names xs) → last.end ≤ room_in (length g.records) → last.last ≤ room_in (length g.names)
        → Below (2 ^ 32) (export_words d.last xs)
        → Writing g (with_named m xs) (Some last)
        (set_word_in (sets rs d.end (flat (export_words d.last xs))) (d.start + 24) (length xs)) (sets ns d.last (export_names xs))
    named-written last es en ee el room name-room small =
        kept last (with_named m xs) _ _
        (step-named g.records g.names d m rs ns held none no_indexed xs last es en ee el room name-room small)
        es en

-- a record begun

module _ (g : Ground) (base size : ℕ) (auto : Bool) (name : List ℕ) where
  abbrev new : Module
  new = new_module base size auto name

  abbrev first : Option Draft × List ℕ × List ℕ
  first = begin_record g.records g.names base size auto name

  abbrev a₀ : Bool
  a₀ = nat_lt (length g.register.modules) 64

  abbrev a₁ : Bool
  a₁ = nat_le (used g + 32) (room_in (length g.records))

  abbrev a₂ : Bool
  a₂ = nat_le (named g + length name) (room_in (length g.names))

  new-names : module_names new ≡ name
  unfolding module_names new_module export_names
  new-names = append-nil name

  new-words : length (module_words (named g) new) ≡ 8
  unfolding new_module
  new-words = omega (arith, words_long (named g) new)

  new-room : roomy g new ≡ (a₀ && (a₁ && a₂))
  unfolding roomy
  new-room =
      let w : used g + 4 * length (module_words (named g) new) ≡ used g + 32 = omega (arith, new-words) in
      let n : named g + length (module_names new) ≡ named g + length name = ap (λ t. named g + length t) new-names in
      rw (w, n)

  pub begin_writing : base < 2 ^ 32 → size < 2 ^ 32 → Writing g new first.0 first.1 first.2
  unfolding Writing draft_at
  begin_writing hb hs = go (a₀ && (a₁ && a₂)) refl
    where
      go : (t : Bool) → (a₀ && (a₁ && a₂)) ≡ t → Writing g new first.0 first.1 first.2
      go true e =
          let a = both a₀ (a₁ && a₂) e in
          let b = both a₁ a₂ a.1 in
          let few = ltb-true (length g.register.modules) 64 a.0 in
          let s =
          begun g.records g.names g.missing g.register g.right g.holds g.bytes base size auto name hb hs few
          (leb-true (used g + 32) (room_in (length g.records)) b.0)
          (leb-true (named g + length name) (room_in (length g.names)) b.1) in
          rw s.0 (s.1, refl, refl, few)
      go false e =
          let s = not-begun g.records g.names g.missing g.register g.right g.holds g.bytes base size auto name e in
          rw s (refl, refl, new-room ∙ e)
