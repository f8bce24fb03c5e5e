-- A record without exports, and after it the exports that wait: gathered entry by entry, then written.
use Rattle.std.specs.Prelude.{◌≡◌, ℕ, zero, suc, ◌+◌, ◌-◌, ◌*◌, ◌/◌, ◌^◌, ◌<◌, ◌≤◌, true, false, List, [], ◌∷◌, ◌++◌, length, take, drop, nat_le, nat_lt, slice_set, refl, Option, Some, None, Result, Ok, Err}
use Rattle.std.proofs.Math.Path.{sym, ap}
use Rattle.std.proofs.Common.{◌∙◌, subst, length-append, length-drop, length-take-le, leb-true}
use native.Mathlib.Omega.{arith}
use Rattle.std.proofs.lemmas.List.Edits.{sets}
use Rattle.std.proofs.Math.Seq.{length-sets, take_all}
use Rattle.window.specs.Word.{set_word_in}
use Rattle.window.specs.Tests.{both}
use Rattle.register.specs.Words.{part, flat}
use Rattle.register.specs.Buffers.{Below, length-flat}
use Rattle.register.specs.Module.{Export, Module, ascending}
use Rattle.register.specs.Encode.{export_words, export_names, module_names, module_words}
use Rattle.register.specs.CheckComplete.{length-export_words}
use Rattle.register.specs.Change.{put_named, with_named}
use Rattle.register.specs.Order.{name_in, position_of, put_ascends, put-at, put_before}
use Rattle.register.specs.declared.append.draft.Draft.{Draft}
use Rattle.register.specs.Append.Draft.{room_in, room-inside, room_word, export_fits, given_up}
use Rattle.register.specs.Append.Sets.{sets_append, sets_over}
use Rattle.register.specs.Append.Laid.{part_sets}
use Rattle.register.specs.Append.Append.{given_up_lem}
use Rattle.linker.specs.Exports.Writing.{Ground, Writing, roomy, held, starts, begins, roomy-named, named-written, and_no}
use Rattle.linker.specs.Exports.Waiting.{Waiting, exports_for, waiting_words, length_exports, length-bytes, name_for, Waits, Put, put_again, put-new, exports_below}

-- the names' bytes: an address does not count, and an export more counts with its name
same_names
    : (xs : List Export) (k a : ℕ) → length (export_names (slice_set xs k (record { name = name_in xs k; address = a }))) ≡ length (export_names xs)
unfolding export_names
same_names [] k a = refl
same_names (x ∷ xs) zero a = refl
same_names (x ∷ xs) (suc k) a =
    let n = slice_set xs k (record { name = name_in xs k; address = a }) in
    omega (arith, same_names xs k a, length-append x.name (export_names xs), length-append x.name (export_names n))

inserted_names
    : (xs : List Export) (k : ℕ) (x : Export) → length (export_names (take k xs ++ (x ∷ drop k xs))) ≡ length (export_names xs) + length x.name
unfolding export_names
inserted_names xs zero x = omega (arith, length-append x.name (export_names xs))
inserted_names [] (suc k) x = omega (arith, length-append x.name [])
inserted_names (y ∷ xs) (suc k) x =
    omega (
      arith,
      inserted_names xs k x,
      length-append y.name (export_names xs),
      length-append y.name (export_names (take k xs ++ (x ∷ drop k xs))),
    )

-- a draft that ends between two places, its names at a word
unfoldable pub EndsWithin : Option Draft → ℕ → ℕ → Type 0
EndsWithin (Some d) from to = (from ≤ d.end) × (d.end ≤ to) × (d.last < 2 ^ 32)
EndsWithin None from to = Unit {0}

module _ (at : ℕ) (w : List ℕ) (g : Ground) (m : Module) (first : Draft) where
  pub record Gathered (exports : List Export) (last : Draft) (rs ns : List ℕ) : Type 0 where
    pub alone : List ℕ
    pub written : Writing g m (Some first) alone ns
    pub none : m.named ≡ []
    pub no_indexed : m.indexed ≡ []
    pub waiting : List Waiting
    pub are : exports_for at w waiting ≡ exports
    pub ascends : ascending exports ≡ true
    pub small : Below (2 ^ 32) (waiting_words at w waiting)
    pub bytes : rs ≡ sets alone first.end (flat (waiting_words at w waiting))
    pub start : last.start ≡ first.start
    pub names : last.names ≡ first.names
    pub end : last.end ≡ first.end + 12 * length waiting
    pub last_name : last.last ≡ first.last + length (export_names exports)
    pub room : last.end ≤ room_in (length g.records)
    pub name-room : last.last ≤ room_in (length g.names)

  -- a step: the exports are gathered, or they have no room and nothing changed
  unfoldable pub GatherStep : List Export → Option Draft → List ℕ → List ℕ → List ℕ → Type 0
  GatherStep exports (Some last) rs rs' ns = Gathered exports last rs' ns
  GatherStep exports None rs rs' ns = (rs' ≡ rs) × (roomy g (with_named m exports) ≡ false)

  -- the export of the name at `place` put to them
  abbrev pub PutStep : List Export → ℕ → ℕ → Option Draft → List ℕ → List ℕ → List ℕ → Type 0
  PutStep exports place a r rs rs' ns = GatherStep (put_named exports (name_for at w place) a) r rs rs' ns

  -- all of them gathered, or the record given up
  unfoldable pub GatheredAll : List Export → Option Draft → List ℕ → List ℕ → Type 0
  GatheredAll exports (Some last) rs ns = Gathered exports last rs ns
  GatheredAll exports None rs ns = (rs ≡ g.records) × (ns ≡ g.names) × (roomy g (with_named m exports) ≡ false)

  -- none yet
  pub Gathered-none
      : (rs ns : List ℕ) → m.named ≡ [] → m.indexed ≡ [] → Writing g m (Some first) rs ns → Gathered [] first rs ns
  unfolding exports_for waiting_words ascending flat export_names
  Gathered-none rs ns e f h =
      record {
        alone = rs;
        written = h;
        none = e;
        no_indexed = f;
        waiting = [];
        are = refl;
        ascends = refl;
        small = λ k. omega arith;
        bytes = refl;
        start = refl;
        names = refl;
        end = omega arith;
        last_name = omega arith;
        room = (held g m first rs ns h).room;
        name-room = (held g m first rs ns h).name-room;
      }

  module _ {exports : List Export} {last : Draft} {rs ns : List ℕ} (h : Gathered exports last rs ns) where
    alone_long : length h.alone ≡ length g.records
    alone_long =
        ap length (held g m first h.alone ns h.written).words ∙ length-sets g.records first.start (flat (module_words first.names m))

    names_long : length ns ≡ length g.names
    names_long = ap length (held g m first h.alone ns h.written).bytes ∙ length-sets g.names first.names (module_names m)

    pub gathered_long : length rs ≡ length g.records
    gathered_long = ap length h.bytes ∙ length-sets h.alone first.end (flat (waiting_words at w h.waiting)) ∙ alone_long

    inside : first.end + 8 * length h.waiting ≤ length h.alone
    inside = omega (arith, h.end, h.room, room-inside (length g.records), alone_long)

    -- where those that wait end
    pub gathered_to : first.end + 8 * ((last.end - first.end) / 12) ≡ first.end + 8 * length h.waiting
    gathered_to = omega (arith, h.end)

    -- their bytes
    pub gathered-waits : (n : ℕ) → n ≡ 8 * length h.waiting → Waits at w h.waiting (take n (drop first.end rs))
    unfolding part
    gathered-waits n e =
        let ws = flat (waiting_words at w h.waiting) in
        let l : length ws ≡ n = length-bytes at w h.waiting ∙ sym e in
        let z : first.end + 0 ≡ first.end = omega arith in
        record {
          are =
              ap (λ t. take n (drop first.end t)) h.bytes
              ∙ ap (λ k. take n (drop k (sets h.alone first.end ws))) (sym z)
              ∙ part_sets h.alone first.end ws 0 n (omega (arith, l, e, inside)) (omega (arith, l))
              ∙ take_all n ws (omega (arith, l));
          small = h.small;
          ascends = rw h.are h.ascends;
        }

    -- the export of one more name

    module _ (place a k : ℕ) (ha : a < 2 ^ 32) where
      abbrev put : List Export
      put = put_named exports (name_for at w place) a

      put_is : put_named (exports_for at w h.waiting) (name_for at w place) a ≡ put
      put_is = ap (λ t. put_named t (name_for at w place) a) h.are

      same_place : {p : Result ℕ ℕ} → position_of exports (name_for at w place) ≡ p → position_of (exports_for at w h.waiting) (name_for at w place) ≡ p
      same_place e = ap (λ t. position_of t (name_for at w place)) h.are ∙ e

      -- those that wait are now ys, in rs'
      gathered-with
          : (ys : List Waiting) (last' : Draft) (rs' : List ℕ) → Put at w h.waiting place a ys
          → rs' ≡ sets h.alone first.end (flat (waiting_words at w ys)) → last'.start ≡ last.start → last'.names ≡ last.names
          → last'.end ≡ first.end + 12 * length ys → last'.last ≡ first.last + length (export_names put)
          → last'.end ≤ room_in (length g.records) → last'.last ≤ room_in (length g.names) → Gathered put last' rs' ns
      gathered-with ys last' rs' p b es en ee el room name-room =
          record {
            alone = h.alone;
            written = h.written;
            none = h.none;
            no_indexed = h.no_indexed;
            waiting = ys;
            are = p.exports ∙ put_is;
            ascends = put_ascends exports (name_for at w place) a h.ascends;
            small = p.small;
            bytes = b;
            start = es ∙ h.start;
            names = en ∙ h.names;
            end = ee;
            last_name = el;
            room = room;
            name-room = name-room;
          }

      pub gathered_again
          : position_of exports (name_for at w place) ≡ Ok k → Gathered put last (set_word_in rs (first.end + 8 * k + 4) a) ns
      gathered_again e =
          let y = put_again at w h.waiting place a k h.small ha h.alone first.end (same_place e) in
          let n : length (export_names put) ≡ length (export_names exports) =
          ap (λ t. length (export_names t)) (put-at exports (name_for at w place) a k e).1 ∙ same_names exports k a in
          gathered-with y.0 last _ y.1 (ap (λ t. set_word_in t (first.end + 8 * k + 4) a) h.bytes ∙ y.3) refl refl
          (h.end ∙ ap (λ t. first.end + 12 * t) (sym y.2)) (h.last_name ∙ ap (λ t. first.last + t) (sym n)) h.room h.name-room

      module _ (e : position_of exports (name_for at w place) ≡ Err k) where
        put-size : length put ≡ length exports + 1
        put-size =
            let p = put_before exports (name_for at w place) a k e in
            ap length p.1 ∙ length-append (take k exports) (record { name = name_for at w place; address = a } ∷ drop k exports)
            ∙ omega (arith, p.0, length-take-le k exports p.0, length-drop k exports)

        put-names : length (export_names put) ≡ length (export_names exports) + length (name_for at w place)
        put-names =
            let p = put_before exports (name_for at w place) a k e in
            ap (λ t. length (export_names t)) p.1 ∙ inserted_names exports k (record { name = name_for at w place; address = a })

        waiting-size : length h.waiting ≡ length exports
        waiting-size = sym (length_exports at w h.waiting) ∙ ap length h.are

        -- no room for it
        pub gathered_full : export_fits rs ns last (length (name_for at w place)) ≡ false → roomy g (with_named m put) ≡ false
        unfolding export_fits
        gathered_full f =
            let we : first.end + 12 * length put ≡ last.end + 12 = omega (arith, put-size, waiting-size, h.end) in
            let ne : first.last + length (export_names put) ≡ last.last + length (name_for at w place) = omega (arith, put-names, h.last_name) in
            roomy-named g m first h.alone ns h.written h.none h.no_indexed put
            ∙ rw (we, ne, ← gathered_long, ← names_long, f) (and_no (nat_lt (length g.register.modules) 64))

        module _ (hp : place < 2 ^ 32) (f : export_fits rs ns last (length (name_for at w place)) ≡ true) where
          fits-words : last.end + 12 ≤ room_in (length g.records)
          unfolding export_fits
          fits-words =
              let b = both (nat_le (last.end + 12) (room_in (length rs))) (nat_le (last.last + length (name_for at w place)) (room_in (length ns))) f in
              rw gathered_long at (leb-true (last.end + 12) (room_in (length rs)) b.0)

          fits-names : last.last + length (name_for at w place) ≤ room_in (length g.names)
          unfolding export_fits
          fits-names =
              let b = both (nat_le (last.end + 12) (room_in (length rs))) (nat_le (last.last + length (name_for at w place)) (room_in (length ns))) f in
              rw names_long at (leb-true (last.last + length (name_for at w place)) (room_in (length ns)) b.1)

          abbrev longer : Draft
          longer =
              record {
                start = last.start;
                end = last.end + 12;
                names = last.names;
                last = last.last + length (name_for at w place);
              }

          abbrev two : List ℕ
          two = place ∷ a ∷ []

          pub gathered-new
              : (to : ℕ) → to ≡ first.end + 8 * length h.waiting
              → Gathered put longer
              (sets rs (first.end + 8 * k) (flat two ++ part rs (first.end + 8 * k) (to - (first.end + 8 * k)))) ns
          gathered-new to et =
              let y = put-new at w h.waiting place a k h.small ha h.alone first.end hp (same_place e) inside in
              let z : to - (first.end + 8 * k) ≡ 8 * length h.waiting - 8 * k = omega (arith, et) in
              gathered-with y.0 longer _ y.1
              (ap (λ t. sets rs (first.end + 8 * k) (flat two ++ part rs (first.end + 8 * k) t)) z
              ∙ ap (λ t. sets t (first.end + 8 * k) (flat two ++ part t (first.end + 8 * k) (8 * length h.waiting - 8 * k))) h.bytes
              ∙ y.3)
              refl refl (omega (arith, h.end, y.2)) (omega (arith, h.last_name, put-names)) fits-words fits-names

    -- given up, with the names that the record has already
    pub gathered-gone
        : given_up rs ns (record { start = first.start; end = last.end; names = first.names; last = first.last }) ≡ (g.records, g.names)
    gathered-gone =
        let k = held g m first h.alone ns h.written in
        let x = flat (module_words first.names m) in
        let y = flat (waiting_words at w h.waiting) in
        let lx : length x ≡ 4 * length (module_words first.names m) = length-flat (module_words first.names m) in
        let ex : first.start + length x ≡ first.end = omega (arith, lx, k.end) in
        let b : rs ≡ sets g.records first.start (x ++ y) =
        h.bytes ∙ ap (λ t. sets t first.end y) k.words ∙ ap (λ t. sets (sets g.records first.start x) t y) (sym ex)
        ∙ sym (sets_append g.records first.start x y) in
        given_up_lem g.records g.names g.missing g.register g.right g.holds g.bytes _ (x ++ y) (module_names m) rs ns
        (starts g m first h.alone ns h.written) (begins g m first h.alone ns h.written) b k.bytes
        (omega (arith, length-append x y, ex, h.end, length-bytes at w h.waiting)) (omega (arith, k.last))
        (omega (arith, h.room, room-inside (length g.records))) (omega (arith, k.name-room, room-inside (length g.names)))

    -- written: each name's offset in place of its place in the image, the names, and the count
    pub gathered-written
        : Writing g (with_named m exports) (Some last)
        (set_word_in (sets rs first.end (flat (export_words first.last exports))) (first.start + 24) (length exports))
        (sets ns first.last (export_names exports))
    gathered-written =
        let ws = waiting_words at w h.waiting in
        let es = export_words first.last exports in
        let size : length h.waiting ≡ length exports = sym (length_exports at w h.waiting) ∙ ap length h.are in
        let le : length (flat es) ≡ 12 * length exports =
        length-flat es ∙ omega (arith, length-export_words first.last exports) in
        let o : sets rs first.end (flat es) ≡ sets h.alone first.end (flat es) =
        ap (λ t. sets t first.end (flat es)) h.bytes
        ∙ sets_over h.alone first.end (flat ws) (flat es) (omega (arith, le, size, length-bytes at w h.waiting)) in
        let small : Below (2 ^ 32) es =
        subst (λ t. Below (2 ^ 32) (export_words first.last t)) h.are
        (exports_below at w h.waiting first.last h.small
        (rw h.are (omega (arith, h.last_name, h.name-room, room_word (length g.names))))) in
        rw o
        (named-written g m first h.alone ns h.written h.none h.no_indexed exports last h.start h.names
        (omega (arith, h.end, size)) h.last_name h.room h.name-room small)
