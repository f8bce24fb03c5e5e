-- Which module the buffers hold while it is written, and that each step gives them the module with one thing more.
use Rattle.std.specs.Prelude.{◌≡◌, ℕ, ◌+◌, ◌*◌, ◌^◌, ◌<◌, ◌≤◌, List, [], ◌∷◌, ◌++◌, length, slice_index, slice_set}
use Rattle.std.proofs.Common.{ap, arith, get_or-set_same, get_or-set_other}
use mathlib.Core.List.{append_assoc, append-nil}
use Rattle.std.proofs.Math.Decide.{dec_lt, ℕ_discrete}
use Rattle.std.proofs.Math.ListN.{length-append}
use Rattle.std.proofs.lemmas.List.Edits.{sets}
use Rattle.std.proofs.Math.Seq.{set_out}
use Rattle.register.specs.Words.{flat}
use Rattle.register.specs.Module.{Export, Module}
use Rattle.register.specs.Encode.{export_words, export_names, module_names, module_words, flag}
use Rattle.register.specs.Change.{with_segment, with_indexed, with_named}
use Rattle.register.specs.CheckComplete.{length-export_words}
use Rattle.register.specs.Buffers.{Below}
use Rattle.register.specs.declared.append.draft.Draft.{Draft}
use Rattle.register.specs.Append.Draft.{room_in}

before_nothing : (s x : List ℕ) (a : ℕ) → x ≡ [] → s ++ x ++ (a ∷ []) ≡ s ++ (a ∷ []) ++ x
before_nothing s x a e = rw (e, append-nil s, append-nil (s ++ (a ∷ [])))

nothing_after : (q : ℕ) (xs : List Export) (l : List ℕ) → xs ≡ [] → l ≡ [] → export_words q xs ++ l ≡ []
unfolding export_words
nothing_after q xs l e f = rw (e, f)

-- the words of a module with one thing more

module _ (q : ℕ) (m : Module) where
  pub words_indexed : (a : ℕ) → slice_set (module_words q m ++ (a ∷ [])) 7 (length m.indexed + 1) ≡ module_words q (with_indexed m a)
  unfolding module_words with_indexed
  words_indexed a =
      let n : length (m.indexed ++ (a ∷ [])) ≡ length m.indexed + 1 = length-append m.indexed (a ∷ []) in
      rw n (simp append_assoc)

  pub words-segment
      : (a : ℕ) → m.named ≡ [] → m.indexed ≡ []
      → slice_set (module_words q m ++ (a ∷ [])) 5 (length m.segments + 1) ≡ module_words q (with_segment m a)
  unfolding module_words with_segment
  words-segment a e f =
      let n : length (m.segments ++ (a ∷ [])) ≡ length m.segments + 1 = length-append m.segments (a ∷ []) in
      let z : export_words (q + length m.name) m.named ++ m.indexed ≡ [] = nothing_after (q + length m.name) m.named m.indexed e f in
      rw n
      (ap (λ t. m.base ∷ m.size ∷ flag m.auto ∷ q ∷ length m.name ∷ (length m.segments + 1) ∷ length m.named ∷ length m.indexed ∷ t)
      (before_nothing m.segments (export_words (q + length m.name) m.named ++ m.indexed) a z))

  -- all named exports at once; no indexed one stands
  pub words-named
      : (xs : List Export) → m.named ≡ [] → m.indexed ≡ []
      → slice_set (module_words q m ++ export_words (q + length (module_names m)) xs) 6 (length xs) ≡ module_words q (with_named m xs)
  unfolding module_words with_named module_names export_names export_words
  words-named xs e f =
      rw (e, f, append-nil m.name, append-nil m.segments, append-nil (export_words (q + length m.name) xs))

  pub names-named : (xs : List Export) → m.named ≡ [] → module_names (with_named m xs) ≡ module_names m ++ export_names xs
  unfolding module_names with_named export_names
  names-named xs e = rw (e, append-nil m.name)

-- lengths and bounds of the words

pub words_long : (q : ℕ) (m : Module) → length (module_words q m) ≡ 8 + (length m.segments + (3 * length m.named + length m.indexed))
unfolding module_words
words_long q m =
    let a : length (m.segments ++ (export_words (q + length m.name) m.named ++ m.indexed))
    ≡ length m.segments + (length (export_words (q + length m.name) m.named) + length m.indexed) =
    rw (length-append, length-append) in
    omega (arith, length-export_words (q + length m.name) m.named)

pub below_set : (b : ℕ) (l : List ℕ) (i v : ℕ) → Below b l → v < b → Below b (slice_set l i v)
below_set b l i v h g k = elim (ℕ_discrete k i) [ yes e ↦ same_place e | no e ↦ rw (get_or-set_other l i k v 0 e) (h k) ]
  where
    same_place : k ≡ i → slice_index (slice_set l i v) k < b
    same_place e = elim (dec_lt i (length l)) [ yes y ↦ rw (e, get_or-set_same l i v 0 y) g | no y ↦ rw (set_out l i v (omega arith)) (h k) ]

-- the buffers hold m after what they held before, from the draft's places on
pub record Held (l n : List ℕ) (d : Draft) (m : Module) (records names : List ℕ) : Type 0 where
  pub end : d.end ≡ d.start + 4 * length (module_words d.names m)
  pub last : d.last ≡ d.names + length (module_names m)
  pub words : records ≡ sets l d.start (flat (module_words d.names m))
  pub bytes : names ≡ sets n d.names (module_names m)
  pub room : d.end ≤ room_in (length l)
  pub name-room : d.last ≤ room_in (length n)
  pub small : Below (2 ^ 32) (module_words d.names m)
