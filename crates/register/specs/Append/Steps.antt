-- The steps on buffers that hold a module: where there is room they hold the module with one thing more, else nothing changed.
use Rattle.std.specs.Prelude.{◌≡◌, ℕ, ◌+◌, ◌*◌, ◌^◌, ◌<◌, ◌≤◌, true, List, [], ◌∷◌, ◌++◌, length, set, slice_index, slice_set, Some, None}
use Rattle.std.proofs.Math.Path.{refl, ap, subst}
use Rattle.std.proofs.Common.{sym, ◌∙◌, arith}
use Rattle.std.proofs.Math.ListN.{length-append, length-set}
use Rattle.std.proofs.Math.Seq.{sets, length-sets}
use borrow.Author.Tests.{le-leb, lt-leb}
use Rattle.window.specs.Word.{set_word_in}
use Rattle.window.specs.Tests.{also}
use Rattle.register.specs.Words.{flat}
use Rattle.register.specs.Module.{Export, Module}
use Rattle.register.specs.Encode.{export_words, export_names, module_names, module_words}
use Rattle.register.specs.Change.{with_segment, with_indexed, with_named}
use Rattle.register.specs.Buffers.{Below, length-flat}
use Rattle.register.specs.CheckComplete.{length-export_words}
use Rattle.register.specs.declared.append.draft.Draft.{Draft}
use Rattle.register.specs.Append.Sets.{sets_append, flat_append, change-laid}
use Rattle.register.specs.Append.Draft.{room_in, room-inside, room_word, longer, opened, push_listed}
use Rattle.register.specs.Append.Laid.{listed-laid, below_append, below_one}
use Rattle.register.specs.Append.Held.{Held, words_indexed, words-segment, words-named, names-named, words_long, below_set}

-- what the steps test of places and lengths, all of it true of buffers that hold a module

pub record Ready (d : Draft) (records names : List ℕ) : Type 0 where
  pub first-words : d.start + 32 ≤ d.end
  pub room : d.end ≤ room_in (length records)
  pub name-room : d.last ≤ room_in (length names)

pub held_ready : (l n : List ℕ) (d : Draft) (m : Module) (records names : List ℕ) → Held l n d m records names → Ready d records names
unfolding module_words
held_ready l n d m records names h =
    let q = d.names in
    let w = words_long q m in
    let lr : length records ≡ length l = ap length h.words ∙ length-sets l d.start (flat (module_words q m)) in
    let ln : length names ≡ length n = ap length h.bytes ∙ length-sets n q (module_names m) in
    record {
      first-words = omega (arith, h.end, w);
      room = rw lr h.room;
      name-room = rw ln h.name-room;
    }

pub ready_open : (d : Draft) (records names : List ℕ) → Ready d records names → opened d records ≡ true
unfolding opened
ready_open d records names r =
    also (le-leb (d.start + 32) d.end r.first-words)
    (also (le-leb d.end (room_in (length records)) r.room)
    (le-leb d.last 0xffff_ffff (omega (arith, r.name-room, room_word (length names)))))

module _ (l n : List ℕ) (d : Draft) (m : Module) (records names : List ℕ) (h : Held l n d m records names) where
  abbrev ws : List ℕ
  ws = module_words d.names m

  few : 4 * length ws < 2 ^ 32
  few = omega (arith, h.end, h.room, room_word (length l))

  -- an address at the end, counted in word `field`
  pub listed
      : (field a : ℕ) (m' : Module) → field < length ws → a < 2 ^ 32 → slice_index ws field ≤ length ws
      → slice_set (ws ++ (a ∷ [])) field (slice_index ws field + 1) ≡ module_words d.names m' → module_names m' ≡ module_names m
      → d.end + 4 ≤ room_in (length l)
      → (push_listed records d field a ≡ (Some (longer d 4), sets l d.start (flat (module_words d.names m'))))
      × Held l n (longer d 4) m' (sets l d.start (flat (module_words d.names m'))) names
  unfolding longer
  listed field a m' f k c w s g =
      let v : length (slice_set (ws ++ (a ∷ [])) field (slice_index ws field + 1)) ≡ length ws + 1 =
      length-set (ws ++ (a ∷ [])) field (slice_index ws field + 1) ∙ length-append ws (a ∷ []) in
      let z : length (module_words d.names m') ≡ length ws + 1 = ap length (sym w) ∙ v in
      let b : Below (2 ^ 32) (module_words d.names m') =
      subst (Below (2 ^ 32)) w
      (below_set (2 ^ 32) (ws ++ (a ∷ [])) field (slice_index ws field + 1) (below_append ws (a ∷ []) (2 ^ 32) h.small (below_one a k))
      (omega (arith, few))) in
      let p : push_listed (sets l d.start (flat ws)) d field a ≡ (Some (longer d 4), sets l d.start (flat (module_words d.names m'))) =
      listed-laid l d ws h.end h.small field a f k (omega (arith, few)) (room-inside (length l))
      (subst (λ t. opened d t ≡ true) h.words (ready_open d records names (held_ready l n d m records names h)))
      ∙ rw (le-leb (d.end + 4) (room_in (length l)) g, w) in (
        ap (λ t. push_listed t d field a) h.words ∙ p,
        record {
          end = omega (arith, h.end);
          last = h.last ∙ ap (λ t. d.names + length t) (sym s);
          words = refl;
          bytes = h.bytes ∙ ap (sets n d.names) (sym s);
          room = g;
          name-room = h.name-room;
          small = b;
        },
      )

  pub listed_none
      : (field a : ℕ) → room_in (length l) < d.end + 4 → push_listed records d field a ≡ (None, records)
  unfolding push_listed
  listed_none field a g =
      let e : length records ≡ length l = ap length h.words ∙ length-sets l d.start (flat ws) in
      rw (ready_open d records names (held_ready l n d m records names h), e, lt-leb (d.end + 4) (room_in (length l)) g)

  pub step-segment
      : (a : ℕ) → a < 2 ^ 32 → m.named ≡ [] → m.indexed ≡ [] → d.end + 4 ≤ room_in (length l)
      → (push_listed records d 5 a ≡ (Some (longer d 4), sets l d.start (flat (module_words d.names (with_segment m a)))))
      × Held l n (longer d 4) (with_segment m a) (sets l d.start (flat (module_words d.names (with_segment m a)))) names
  unfolding module_words module_names with_segment
  step-segment a k e f g =
      listed 5 a (with_segment m a) (omega (arith, words_long d.names m)) k (omega (arith, words_long d.names m))
      (words-segment d.names m a e f) refl g

  pub step_indexed
      : (a : ℕ) → a < 2 ^ 32 → d.end + 4 ≤ room_in (length l)
      → (push_listed records d 7 a ≡ (Some (longer d 4), sets l d.start (flat (module_words d.names (with_indexed m a)))))
      × Held l n (longer d 4) (with_indexed m a) (sets l d.start (flat (module_words d.names (with_indexed m a)))) names
  unfolding module_words module_names with_indexed
  step_indexed a k g =
      listed 7 a (with_indexed m a) (omega (arith, words_long d.names m)) k (omega (arith, words_long d.names m))
      (words_indexed d.names m a) refl g

-- all named exports written after a record that has none, with their count in word 6
pub step-named
    : (l n : List ℕ) (d : Draft) (m : Module) (records names : List ℕ) → Held l n d m records names → m.named ≡ [] → m.indexed ≡ []
    → (xs : List Export) (last : Draft) → last.start ≡ d.start → last.names ≡ d.names → last.end ≡ d.end + 12 * length xs
    → last.last ≡ d.last + length (export_names xs) → last.end ≤ room_in (length l) → last.last ≤ room_in (length n)
    → Below (2 ^ 32) (export_words d.last xs)
    → Held l n last (with_named m xs) (set_word_in (sets records d.end (flat (export_words d.last xs))) (d.start + 24) (length xs))
    (sets names d.last (export_names xs))
step-named l n d m records names h e f xs last es en ee el room name-room small =
    let q = d.names in
    let x = module_words q m in
    let y = export_words d.last xs in
    let lw = words_long q m in
    let ly : length y ≡ 3 * length xs = length-export_words d.last xs in
    let lx : length (x ++ y) ≡ length x + length y = length-append x y in
    let v : set (x ++ y) 6 (length xs) ≡ module_words q (with_named m xs) =
    ap (λ k. set (x ++ export_words k xs) 6 (length xs)) h.last ∙ words-named q m xs e f in
    let lv : length (module_words q (with_named m xs)) ≡ length x + 3 * length xs =
    ap length (sym v) ∙ length-set (x ++ y) 6 (length xs) ∙ omega (arith, lx, ly) in
    let s = names-named q m xs e in
    let ls : length (module_names (with_named m xs)) ≡ length (module_names m) + length (export_names xs) =
    ap length s ∙ length-append (module_names m) (export_names xs) in
    let fx : d.start + length (flat x) ≡ d.end = ap (λ k. d.start + k) (length-flat x) ∙ sym h.end in
    let a : sets records d.end (flat y) ≡ sets l d.start (flat (x ++ y)) =
    ap (λ t. sets t d.end (flat y)) h.words ∙ ap (λ k. sets (sets l d.start (flat x)) k (flat y)) (sym fx)
    ∙ sym (sets_append l d.start (flat x) (flat y)) ∙ ap (sets l d.start) (sym (flat_append x y)) in
    let few : length xs < 2 ^ 32 = omega (arith, ee, room, room_word (length l)) in
    record {
      end = rw (es, en) (omega (arith, ee, h.end, lv));
      last = rw en (omega (arith, el, h.last, ls));
      words =
          rw (es, en)
          (ap (λ t. set_word_in t (d.start + 24) (length xs)) a ∙ change-laid l d.start (x ++ y) 6 (length xs) (omega (arith, lx, lw))
          ∙ ap (λ t. sets l d.start (flat t)) v);
      bytes =
          rw en
          (ap (λ t. sets t d.last (export_names xs)) h.bytes ∙ ap (λ k. sets (sets n q (module_names m)) k (export_names xs)) h.last
          ∙ sym (sets_append n q (module_names m) (export_names xs)) ∙ ap (sets n q) (sym s));
      room = room;
      name-room = name-room;
      small = rw en (subst (Below (2 ^ 32)) v (below_set (2 ^ 32) (x ++ y) 6 (length xs) (below_append x y (2 ^ 32) h.small small) few));
    }
