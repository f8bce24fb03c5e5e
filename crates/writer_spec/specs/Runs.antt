-- What the runs of module entries must be, computed: "A module entry's two tables are runs of the header's; no import lies in the runs of two
-- entries." A module entry has the pointer of its indexed run at 4 and of its anonymous run at 12, its count being the next word.
use Rattle.std.specs.Prelude.{ℕ, ◌+◌, ◌-◌, ◌*◌, ◌/◌, ◌%◌, Bool, ◌&&◌, ◌||◌, eqb, leb}
use Rattle.window.specs.Mirror.{word}
use Rattle.history.specs.Image.{Table, module_entries, indexed_imports, anonymous_imports, start, count, entry}
use Rattle.writer_spec.specs.All.{all_below}

abbrev pub indexed_run : ℕ
indexed_run = 4

abbrev pub anonymous_run : ℕ
anonymous_run = 12

-- runs of n entries from p on and of m from q on have no entry in common
unfoldable pub runs_meet_not : (p n q m : ℕ) → Bool
runs_meet_not p n q m = eqb n 0 || (eqb m 0 || (leb (p + 8 * n) q || leb (q + 8 * m) p))

module _ (F : ℕ → ℕ) where
  -- the pointer and the count of module entry j's run at r
  unfoldable pub run_pointer : (r j : ℕ) → ℕ
  run_pointer r j = word F (entry F module_entries j + r)

  unfoldable pub run_length : (r j : ℕ) → ℕ
  run_length r j = word F (entry F module_entries j + (r + 4))

  -- n entries from p on are entries of a table with 8 bytes an entry; an empty run's pointer is free
  unfoldable pub is_run : Table → (p n : ℕ) → Bool
  is_run t p n =
      eqb n 0 || (leb (start F t) p && (eqb ((p - start F t) % 8) 0 && leb ((p - start F t) / 8 + n) (count F t)))

  unfoldable pub runs_inside : Table → ℕ → Bool
  runs_inside t r = all_below (count F module_entries) (λ j. is_run t (run_pointer r j) (run_length r j))

  unfoldable pub runs_apart : ℕ → Bool
  runs_apart r =
      all_below (count F module_entries) (λ j. all_below j (λ i. runs_meet_not (run_pointer r i) (run_length r i) (run_pointer r j) (run_length r j)))

  unfoldable pub runs_good : Bool
  runs_good =
      runs_inside indexed_imports indexed_run
      && (runs_inside anonymous_imports anonymous_run && (runs_apart indexed_run && runs_apart anonymous_run))
