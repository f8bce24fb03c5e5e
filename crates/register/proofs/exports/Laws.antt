-- The search for a name among a record's named exports, in ascending order of their names: it stands between `low` and `high`, if at all.
use Rattle.std.specs.declared.cmp.Ordering.{Ordering}
use Rattle.std.specs.declared.cmp.Ordering.TheVariants.{Less, Equal, Greater}
use Rattle.std.proofs.Common.{◌≡◌, ℕ, ◌+◌, ◌/◌, ◌<◌, ◌≤◌, true, List, length, sym, ap, ◌∙◌, subst, arith, Some, None}
use Rattle.window.specs.Name.{order_of}
use Rattle.register.specs.Words.{words_in}
use Rattle.register.specs.Module.{find_export, ascending}
use Rattle.register.specs.Order.{
  Between,
  name_in,
  found_at,
  position_finds,
  position_of,
  between-all,
  between_none,
  between-after,
  between_before,
  between-same,
}
use Rattle.register.specs.Decode.{export_at, exports_in}
use Rattle.register.proofs.ExportLoops.{length_exports, name-at}

module _ (exports names name : List ℕ) where
  abbrev pub Searched : ℕ → ℕ → Type 0
  Searched low high = Between (exports_in (words_in exports) names) name low high

  pub search_starts : Searched 0 (length exports / 12)
  search_starts = subst (Searched 0) (length_exports exports names) (between-all (exports_in (words_in exports) names) name)

  module _ {low high : ℕ} (b : Searched low high) where
    pub search_inside : high ≤ length exports / 12
    search_inside = omega (arith, b.inside, length_exports exports names)

    module _ (h : ascending (exports_in (words_in exports) names) ≡ true) where
      pub search_none : high ≤ low → None ≡ find_export (exports_in (words_in exports) names) name
      unfolding position_of found_at find_export
      search_none l = ap found_at (between_none b l) ∙ position_finds 0 (exports_in (words_in exports) names) name h

      -- the export in the middle has the name x
      module _ (middle : ℕ) (x : List ℕ) {o : Ordering} (l : low ≤ middle) (g : middle < high)
          (e : x ≡ (export_at (words_in exports) names middle).name) (s : o ≡ order_of name x) where
        ordered : order_of name (name_in (exports_in (words_in exports) names) middle) ≡ o
        ordered = ap (order_of name) (name-at exports names middle (omega (arith, search_inside)) ∙ sym e) ∙ sym s

        pub search_below : o ≡ Less → Searched low middle
        search_below z = between_before b h middle l g (ordered ∙ z)

        pub search_above : o ≡ Greater → Searched (middle + 1) high
        search_above z = between-after b h middle l g (ordered ∙ z)

        pub search_found : o ≡ Equal → Some middle ≡ find_export (exports_in (words_in exports) names) name
        unfolding position_of found_at find_export
        search_found z = ap found_at (between-same b h middle l g (ordered ∙ z)) ∙ position_finds 0 (exports_in (words_in exports) names) name h
