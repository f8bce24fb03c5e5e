-- What passes the test is an encoding: records and names, by induction along the buffer.
use Rattle.std.specs.Prelude.{if◌then◌else◌, ◌≡◌, ℕ, zero, suc, ◌+◌, ◌*◌, ◌/◌, ◌≤◌, Bool, true, false, ◌&&◌, leb, List, [], ◌∷◌, ◌++◌, length, take, drop, ◌==◌, nat_le, slice_index, slice_index_or, Option, Some, None}
use Rattle.std.proofs.Math.Path.{refl, sym, ap}
use Rattle.std.proofs.Common.{◌∙◌, take-append-drop, drop_of_length-le, drop-drop, eqb-true, leb-true}
use native.Mathlib.Omega.{arith}
use Rattle.std.proofs.Math.ListN.{length-append}
use Rattle.window.specs.Name.{no_zero, is_name}
use Rattle.window.specs.Tests.{both, also}
use Rattle.register.specs.Words.{part}
use Rattle.register.specs.Lists.{take_next, length_part, part_none, part-all, part-add}
use Rattle.register.specs.Module.{Export, Module, named_ok, ascending, proper_module, proper_modules}
use Rattle.register.specs.Encode.{export_words, export_names, module_names, module_words, flag, record_words, record_names}
use Rattle.register.specs.Decode.{export_at, exports_from, exports_in, module_size, read_module, read_modules}
use Rattle.register.specs.Check.{name_ok, exports_end, fixed_ok, export_part, module_end, after, modules_ok}

-- a name that passed
pub record NamePasses (names : List ℕ) (q o l : ℕ) : Type 0 where
  pub place : o ≡ q
  pub fits : o + l ≤ length names
  pub size : length (part names o l) ≡ l
  pub proper : is_name (part names o l) ≡ true

pub named : (names : List ℕ) (q o l : ℕ) → name_ok names q o l ≡ true → NamePasses names q o l
unfolding name_ok is_name
named names q o l e =
    let a = both (o == q) (nat_le l 512 && (nat_le (o + l) (length names) && no_zero (part names o l))) e in
    let b = both (nat_le l 512) (nat_le (o + l) (length names) && no_zero (part names o l)) a.1 in
    let c = both (nat_le (o + l) (length names)) (no_zero (part names o l)) b.1 in
    let f : o + l ≤ length names = leb-true (o + l) (length names) c.0 in
    let s : length (part names o l) ≡ l = length_part names o l f in
    record { place = eqb-true o q a.0; fits = f; size = s; proper = rw s (also b.0 c.1) }

-- three words more
take-three
    : (ws : List ℕ) (j n : ℕ) → j + 3 ≤ length ws
    → part ws j (3 + n) ≡ slice_index ws j ∷ slice_index ws (j + 1) ∷ slice_index ws (j + 2) ∷ part ws (j + 3) n
unfolding part
take-three ws j n h =
    let e₂ : j + 1 + 1 ≡ j + 2 = omega arith in
    let e₃ : j + 2 + 1 ≡ j + 3 = omega arith in
    let s : 3 + n ≡ suc (suc (suc n)) = omega arith in
    rw (
      s,
      take_next ws j (suc (suc n)) (omega arith),
      take_next ws (j + 1) (suc n) (omega arith),
      e₂,
      take_next ws (j + 2) n (omega arith),
      e₃,
    )

-- n exports from number k on, whose names begin at q and end at q'
pub record ExportsPass (ws names : List ℕ) (n k q q' : ℕ) : Type 0 where
  pub words : part ws (3 * k) (3 * n) ≡ export_words q (exports_from n ws names k)
  pub end : q' ≡ q + length (export_names (exports_from n ws names k))
  pub bytes : part names q (length (export_names (exports_from n ws names k))) ≡ export_names (exports_from n ws names k)
  pub proper : named_ok (exports_from n ws names k) ≡ true
  pub size : length (exports_from n ws names k) ≡ n

pub exports_sound
    : (ws names : List ℕ) (n k q q' : ℕ) → 3 * (k + n) ≤ length ws → exports_end n ws names k q ≡ Some q' → ExportsPass ws names n k q q'
unfolding exports_end exports_from export_at export_words export_names named_ok
exports_sound ws names zero k q q' h e =
    let f : q ≡ q' = cc in
    record { words = part_none ws (3 * k); end = omega arith; bytes = part_none names q; proper = refl; size = refl }
exports_sound ws names (suc n) k q q' h e =
    go (name_ok names q (slice_index ws (3 * k)) (slice_index ws (3 * k + 1))) refl e
    (exports_sound ws names n (k + 1) (q + slice_index ws (3 * k + 1)) q' (omega arith))
  where
    o : ℕ
    o = slice_index ws (3 * k)

    l : ℕ
    l = slice_index ws (3 * k + 1)

    xs : List Export
    xs = exports_from n ws names (k + 1)

    step : NamePasses names q o l → ExportsPass ws names n (k + 1) (q + l) q' → ExportsPass ws names (suc n) k q q'
    step a i =
        let e₁ : 3 * suc n ≡ 3 + 3 * n = omega arith in
        let e₂ : 3 * k + 3 ≡ 3 * (k + 1) = omega arith in
        let s : length (part names o l ++ export_names xs) ≡ length (part names o l) + length (export_names xs) =
        length-append (part names o l) (export_names xs) in
        record {
          words = rw (e₁, take-three ws (3 * k) (3 * n) (omega arith), e₂, i.words, a.size, a.place);
          end = omega (arith, s, a.size, i.end);
          bytes =
              rw s
              (part-add names q (length (part names o l)) (length (export_names xs))
              ∙ rw (a.size, i.bytes) (ap (λ r. part names r l ++ export_names xs) (sym a.place)));
          proper = also a.proper i.proper;
          size = ap suc i.size;
        }

    go
        : (b : Bool) → name_ok names q o l ≡ b → (if b then exports_end n ws names (k + 1) (q + l) else None) ≡ Some q'
        → (exports_end n ws names (k + 1) (q + l) ≡ Some q' → ExportsPass ws names n (k + 1) (q + l) q') → ExportsPass ws names (suc n) k q q'
    go true p f ih = step (named names q o l p) (ih f)
    go false p f ih = let z : ◌≡◌ {A = ℕ} 0 1 = cc in absurd (omega arith)

-- the first words of a record that passed
pub record Fixed (ws names : List ℕ) (q : ℕ) : Type 0 where
  pub eight : 8 ≤ length ws
  pub whole : module_size ws ≤ length ws
  pub auto : slice_index_or ws 2 0 ≤ 1
  pub segments : leb (slice_index ws 5) 16 ≡ true
  pub name : NamePasses names q (slice_index ws 3) (slice_index ws 4)

pub fixed : (ws names : List ℕ) (q : ℕ) → fixed_ok ws names q ≡ true → Fixed ws names q
unfolding fixed_ok
fixed ws names q e =
    let t₄ : Bool = name_ok names q (slice_index ws 3) (slice_index ws 4) in
    let t₃ : Bool = leb (slice_index ws 5) 16 in
    let t₂ : Bool = leb (slice_index ws 2) 1 in
    let t₁ : Bool = leb (module_size ws) (length ws) in
    let a = both (nat_le 8 (length ws)) (t₁ && (t₂ && (t₃ && t₄))) e in
    let b = both t₁ (t₂ && (t₃ && t₄)) a.1 in
    let c = both t₂ (t₃ && t₄) b.1 in
    let d = both t₃ t₄ c.1 in
    record {
      eight = leb-true 8 (length ws) a.0;
      whole = leb-true (module_size ws) (length ws) b.0;
      auto = leb-true (slice_index ws 2) 1 c.0;
      segments = d.0;
      name = named names q (slice_index ws 3) (slice_index ws 4) d.1;
    }

-- eight words more
pub take_eight
    : (ws : List ℕ) (n : ℕ) → 8 ≤ length ws
    → take (8 + n) ws
    ≡ slice_index ws 0 ∷ slice_index ws 1 ∷ slice_index ws 2 ∷ slice_index ws 3 ∷ slice_index ws 4 ∷ slice_index ws 5 ∷ slice_index ws 6 ∷ slice_index ws 7 ∷ part ws 8 n
unfolding part
take_eight ws n h =
    let s : 8 + n ≡ suc (suc (suc (suc (suc (suc (suc (suc n))))))) = omega arith in
    rw (
      s,
      take_next ws 0 (suc (suc (suc (suc (suc (suc (suc n))))))) (omega arith),
      take_next ws 1 (suc (suc (suc (suc (suc (suc n)))))) (omega arith),
      take_next ws 2 (suc (suc (suc (suc (suc n))))) (omega arith),
      take_next ws 3 (suc (suc (suc (suc n)))) (omega arith),
      take_next ws 4 (suc (suc (suc n))) (omega arith),
      take_next ws 5 (suc (suc n)) (omega arith),
      take_next ws 6 (suc n) (omega arith),
      take_next ws 7 n (omega arith),
    )

flag_word : (a : ℕ) → a ≤ 1 → flag (a == 1) ≡ a
unfolding flag
flag_word zero h = refl
flag_word (suc zero) h = refl
flag_word (suc (suc a)) h = absurd (omega arith)

exports_size : (ws : List ℕ) → module_size ws ≤ length ws → length (export_part ws) ≡ 3 * slice_index ws 6
unfolding module_size export_part
exports_size ws h = length_part ws (8 + slice_index ws 5) (3 * slice_index ws 6) (omega arith)

-- a record that passed: its words, its names, and that it is proper
pub record Parsed (ws names : List ℕ) (q q' : ℕ) : Type 0 where
  pub words : take (module_size ws) ws ≡ module_words q (read_module ws names)
  pub end : q' ≡ q + length (module_names (read_module ws names))
  pub bytes : part names q (length (module_names (read_module ws names))) ≡ module_names (read_module ws names)
  pub proper : proper_module (read_module ws names) ≡ true
  pub whole : module_size ws ≤ length ws

-- the words of a record after the first eight
tail_words
    : (ws : List ℕ) (s n i : ℕ) → part ws 8 (s + (3 * n + i)) ≡ part ws 8 s ++ (part ws (8 + s) (3 * n) ++ part ws (8 + (s + 3 * n)) i)
tail_words ws s n i =
    let e : 8 + s + 3 * n ≡ 8 + (s + 3 * n) = omega arith in
    part-add ws 8 s (3 * n + i)
    ∙ ap (λ r. part ws 8 s ++ r) (part-add ws (8 + s) (3 * n) i ∙ rw e)

module _ (ws names : List ℕ) (q q' : ℕ) where
  parsed
      : Fixed ws names q → ascending (exports_in (export_part ws) names) ≡ true
      → ExportsPass (export_part ws) names (length (export_part ws) / 3) 0 (q + slice_index ws 4) q' → length (export_part ws) ≡ 3 * slice_index ws 6
      → Parsed ws names q q'
  unfolding module_words module_names read_module proper_module module_size export_part exports_in
  parsed f d x e =
      let s = slice_index_or ws 5 0 in
      let n = slice_index_or ws 6 0 in
      let i = slice_index_or ws 7 0 in
      let es = part ws (8 + s) (3 * n) in
      let e' : length es / 3 ≡ n = omega arith in
      let ls : length (part ws 8 s) ≡ s = length_part ws 8 s (omega (arith, f.whole)) in
      let ln : length (exports_from (length es / 3) es names 0) ≡ n = x.size ∙ e' in
      let li : length (part ws (8 + (s + 3 * n)) i) ≡ i = length_part ws (8 + (s + 3 * n)) i (omega (arith, f.whole)) in
      let we : es ≡ export_words (q + slice_index ws 4) (exports_from (length es / 3) es names 0) =
      sym (part-all es (3 * n) e) ∙ ap (λ k. part es 0 (3 * k)) (sym e') ∙ x.words in
      let nm = part names (slice_index ws 3) (slice_index ws 4) in
      let xs = exports_from (length es / 3) es names 0 in
      let g : leb (length (part ws 8 s)) 16 ≡ true = rw ls f.segments in
      let la : length (nm ++ export_names xs) ≡ length nm + length (export_names xs) = length-append nm (export_names xs) in
      record {
        words =
            take_eight ws (s + (3 * n + i)) f.eight
            ∙ rw (tail_words ws s n i, flag_word (slice_index ws 2) f.auto, f.name.size, ls, ln, li, ← we, f.name.place);
        end = omega (arith, la, f.name.size, x.end);
        bytes =
            rw la
            (part-add names q (length nm) (length (export_names xs))
            ∙ rw (f.name.size, x.bytes) (ap (λ r. part names r (slice_index ws 4) ++ export_names xs) (sym f.name.place)));
        proper = also f.name.proper (also g (also x.proper d));
        whole = f.whole;
      }

  pub module_sound : module_end ws names q ≡ Some q' → Parsed ws names q q'
  unfolding module_end
  module_sound = go (fixed_ok ws names q) (ascending (exports_in (export_part ws) names)) refl refl
    where
      size : Fixed ws names q → length (export_part ws) ≡ 3 * slice_index ws 6
      size f = exports_size ws f.whole

      go
          : (a b : Bool) → fixed_ok ws names q ≡ a → ascending (exports_in (export_part ws) names) ≡ b
          → (if a && b then exports_end (length (export_part ws) / 3) (export_part ws) names 0 (q + slice_index ws 4) else None) ≡ Some q'
          → Parsed ws names q q'
      go true true p d e =
          let f = fixed ws names q p in
          parsed f d
          (exports_sound (export_part ws) names (length (export_part ws) / 3) 0 (q + slice_index ws 4) q' (omega (arith, size f)) e)
          (size f)
      go true false p d e = let z : ◌≡◌ {A = ℕ} 0 1 = cc in absurd (omega arith)
      go false b p d e = let z : ◌≡◌ {A = ℕ} 0 1 = cc in absurd (omega arith)

-- all records that passed, to the end of the words and of the names
pub record RecordsPass (ws names : List ℕ) (n q : ℕ) : Type 0 where
  pub words : ws ≡ record_words q (read_modules n ws names)
  pub bytes : drop q names ≡ record_names (read_modules n ws names)
  pub proper : proper_modules (read_modules n ws names) ≡ true
  pub size : length (read_modules n ws names) ≡ n

empty_list : (l : List ℕ) → length l ≡ 0 → l ≡ []
empty_list [] e = refl
empty_list (a ∷ l) e = absurd (omega arith)

pub modules_sound : (n : ℕ) (ws names : List ℕ) (q : ℕ) → modules_ok n ws names q ≡ true → RecordsPass ws names n q
unfolding modules_ok read_modules record_words record_names proper_modules part
modules_sound zero ws names q e =
    let a = both (length ws == 0) (q == length names) e in
    let h : length names ≤ q = omega (arith, eqb-true q (length names) a.1) in
    record {
      words = empty_list ws (eqb-true (length ws) 0 a.0);
      bytes = drop_of_length-le names h;
      proper = refl;
      size = refl;
    }
modules_sound (suc n) ws names q e = go (module_end ws names q) refl e (modules_sound n (drop (module_size ws) ws) names)
  where
    m : Module
    m = read_module ws names

    rest : List ℕ
    rest = drop (module_size ws) ws

    step : (q' : ℕ) → Parsed ws names q q' → RecordsPass rest names n q' → RecordsPass ws names (suc n) q
    step q' p r =
        let l = length (module_names m) in
        record {
          words =
              sym (take-append-drop (module_size ws) ws)
              ∙ rw p.words (ap (λ t. module_words q m ++ t) (r.words ∙ ap (λ k. record_words k (read_modules n rest names)) p.end));
          bytes =
              sym (take-append-drop l (drop q names))
              ∙ ap (λ t. t ++ drop l (drop q names)) p.bytes
              ∙ ap (λ t. module_names m ++ t) (drop-drop l q names ∙ ap (λ k. drop k names) (sym p.end) ∙ r.bytes);
          proper = also p.proper r.proper;
          size = ap suc r.size;
        }

    go
        : (z : Option ℕ) → module_end ws names q ≡ z → after z (modules_ok n rest names) ≡ true
        → ((k : ℕ) → modules_ok n rest names k ≡ true → RecordsPass rest names n k) → RecordsPass ws names (suc n) q
    go (Some q') f g ih = step q' (module_sound ws names q q' f) (ih q' g)
    go None f g ih = let z : ◌≡◌ {A = ℕ} 0 1 = cc in absurd (omega arith)
