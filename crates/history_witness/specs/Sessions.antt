-- Two sessions: what comes in them, and that they end alike.
use Rattle.std.specs.Prelude.{ℕ, ◌+◌, ◌-◌, ◌^◌, ◌≤◌, ◌<◌, ◌≡◌, refl, List, [], ◌∷◌, map, true, length, get_or, take, drop}
use Rattle.std.proofs.Common.{sym, ap, ◌∙◌, inl, inr, arith, get_or-take, get_or-drop, get_or-append-add, lt-ltb, le-ltb}
use Rattle.std.proofs.Math.Path.{fun_ext}
use Rattle.std.proofs.Math.Decide.{dec_lt}
use Rattle.std.proofs.Math.ListN.{get_or-eq_default}
use Rattle.window.specs.Memory.{place, byte_at}
use Rattle.window.specs.Within.{In}
use Rattle.register.specs.Words.{flat}
use Rattle.linker_spec.specs.declared.call.Call.TheVariants.{Initialize, Load, Unload}
use Rattle.history.specs.LoadedModule.{LoadCall, initialized, loaded, LoadedModule, Image, cut, image_of, base_of, size_of, Area, LentArea}
use Rattle.history.specs.Sessions.{CallRecord, call_record, comes, loaded_modules, others, stay, standing}
use Rattle.history.specs.Below.{Each}
use Rattle.history.specs.Demand3.{SameStanding, images}
use Rattle.history_witness.specs.Image.{zeros, cro, c-words, m-words, n-words}
use Rattle.history_witness.specs.Open.{opened}
use Rattle.history_witness.specs.Together.{in_true}
use Rattle.history_witness.specs.Tested.{tested}
use Rattle.history_witness.specs.Exact.{Exact, came, stood, brings, came_are, stood_are}
use Rattle.history_witness.specs.PageBefore.{at, bt, page_before, lent_page_before}
use Rattle.history_witness.specs.Computed.{page₀, page₁, page₄, small, large, b₀, b₁, b₂, b₃, d₀, d₁, d₂, d₃, d₄, short, wrong, done, shown, o₁, o₂, o₃, o₄, o₅, o₆, o₇, o₈, o₉, q₁, q₂, q₃, q₄, refused}

-- before the CRS: a load of `m` while it has no magic word, and two calls that are lent what breaks a rule
abbrev pub t₁ : CallRecord
t₁ = call_record (Load large 1 1) at b₀ (refused 1 b₀)

abbrev pub t₂ : CallRecord
t₂ = call_record (Unload 0x100420) at short (refused 3 short)

abbrev pub t₃ : CallRecord
t₃ = call_record (Initialize 0x100000 0x178) at wrong (refused 4 wrong)

-- the CRS comes; others write the magic word; `m` comes; `n` comes; a load finds no room; `n` leaves, and an unload of its base then removes nothing
abbrev pub t₄ : CallRecord
t₄ = call_record (Initialize 0x100000 0x178) at b₀ (done 0 (b₁ 0))

abbrev pub t₅ : CallRecord
t₅ = call_record (Load large 1 1) at (b₁ cro) (done 0x210 b₂)

abbrev pub t₆ : CallRecord
t₆ = call_record (Load (small 0x100420 0x168) 1 0) at b₂ (done 0 b₃)

abbrev pub t₇ : CallRecord
t₇ = call_record (Load (small 0x100560 0x138) 1 0) at b₃ (refused 5 b₃)

abbrev pub t₈ : CallRecord
t₈ = call_record (Unload 0x100420) at b₃ (done 1 b₂)

abbrev pub t₉ : CallRecord
t₉ = call_record (Unload 0x100420) at b₂ (done 0 b₂)

abbrev pub A : List CallRecord
A = t₉ ∷ t₈ ∷ t₇ ∷ t₆ ∷ t₅ ∷ t₄ ∷ t₃ ∷ t₂ ∷ t₁ ∷ []

-- on another window, in larger buffers: the CRS, `n` and `m` come, `m` with another auto-link parameter; `n` leaves
abbrev pub u₁ : CallRecord
u₁ = call_record (Initialize 0x100000 0x178) bt (lent_page_before d₀) (done 0 (lent_page_before d₁))

abbrev pub u₂ : CallRecord
u₂ = call_record (Load (small 0x100420 0x168) 1 0) bt (lent_page_before d₁) (done 0 (lent_page_before d₂))

abbrev pub u₃ : CallRecord
u₃ = call_record (Load large 2 1) bt (lent_page_before d₂) (done 0x210 (lent_page_before d₃))

abbrev pub u₄ : CallRecord
u₄ = call_record (Unload 0x100420) bt (lent_page_before d₃) (done 1 (lent_page_before d₄))

abbrev pub B : List CallRecord
B = u₄ ∷ u₃ ∷ u₂ ∷ u₁ ∷ []

pub exact_a : Exact A
unfolding Each
exact_a = (o₉, (o₈, (o₇, (o₆, (o₅, (o₄, (o₃, (o₂, (o₁, tt)))))))))

pub exact_b : Exact B
unfolding Each
exact_b = (q₄, (q₃, (q₂, (q₁, tt))))

-- what comes
abbrev pub c : LoadedModule
c = record { load_call = initialized 0x100000 0x178; bytes = byte_at at (page₀ 0) }

abbrev pub m : LoadedModule
m = record { load_call = loaded large true 1; bytes = byte_at at (page₁ cro) }

abbrev pub n : LoadedModule
n = record { load_call = loaded (small 0x100420 0x168) true 0; bytes = byte_at at b₂.window }

abbrev pub c' : LoadedModule
c' = record { load_call = initialized 0x100000 0x178; bytes = byte_at bt (page_before (page₀ cro)) }

abbrev pub n' : LoadedModule
n' = record { load_call = loaded (small 0x100420 0x168) true 0; bytes = byte_at bt (page_before (page₁ cro)) }

abbrev pub m' : LoadedModule
m' = record { load_call = loaded large true 1; bytes = byte_at bt (page_before page₄) }

pub came-a : loaded_modules A ≡ c ∷ m ∷ n ∷ []
unfolding came brings comes
came-a = came_are A exact_a

pub came-b : loaded_modules B ≡ c' ∷ n' ∷ m' ∷ []
unfolding came brings comes
came-b = came_are B exact_b

pub stood-a : standing A ≡ c ∷ m ∷ []
unfolding stood stay others brings comes
stood-a = stood_are A exact_a

pub stood-b : standing B ≡ c' ∷ m' ∷ []
unfolding stood stay others brings comes
stood-b = stood_are B exact_b

-- the three images by themselves
abbrev file : List ℕ → ℕ → ℕ
file words o = get_or (flat words) o 0

abbrev pub C : Image
C = record { load_call = initialized 0x100000 0x178; file = file c-words }

abbrev pub M : Image
M = record { load_call = loaded large true 1; file = file (m-words cro) }

abbrev pub N : Image
N = record { load_call = loaded (small 0x100420 0x168) true 0; file = file n-words }

-- an image at place i of a window, read from its base on
image_is
    : (f : LoadCall) (at i s : ℕ) (w l : List ℕ) → place at (base_of f) ≡ i → size_of f ≡ s → i + s ≤ 2 ^ 31 → take s (drop i w) ≡ l → length l ≡ s
    → image_of (record { load_call = f; bytes = byte_at at w }) ≡ record { load_call = f; file = λ o. get_or l o 0 }
unfolding cut byte_at place
image_is f at i s w l b z h e len = ap (λ F. record { load_call = f; file = F }) (fun_ext (λ o. go o (dec_lt o s)))
  where
    go : (o : ℕ) → Dec (o < s) → cut f (byte_at at w) o ≡ get_or l o 0
    go o (yes q) =
        let y : place at (base_of f + o) ≡ i + o = omega (arith, b) in
        rw (z, lt-ltb o s q, y, ← e, get_or-take s (drop i w) o 0 q, get_or-drop i w o 0) refl
    go o (no q) = rw (z, le-ltb o s (omega arith)) (sym (get_or-eq_default l 0 (omega (arith, len))))

pub c_is : image_of c ≡ C
unfolding opened shown
c_is = image_is c.load_call at 0 0x178 (page₀ 0) (flat c-words) refl refl (omega arith) refl refl

pub m_is : image_of m ≡ M
unfolding opened shown
m_is = image_is m.load_call at 0x200 0x210 (page₁ cro) (flat (m-words cro)) refl refl (omega arith) refl refl

pub n_is : image_of n ≡ N
unfolding opened shown
n_is = image_is n.load_call at 0x420 0x168 b₂.window (flat n-words) refl refl (omega arith) refl refl

pub c'-is : image_of c' ≡ C
unfolding opened shown page_before
c'-is = image_is c'.load_call bt 0x1000 0x178 (page_before (page₀ cro)) (flat c-words) refl refl (omega arith) refl refl

pub n'-is : image_of n' ≡ N
unfolding opened shown page_before
n'-is = image_is n'.load_call bt 0x1420 0x168 (page_before (page₁ cro)) (flat n-words) refl refl (omega arith) refl refl

pub m'-is : image_of m' ≡ M
unfolding opened shown page_before
m'-is = image_is m'.load_call bt 0x1200 0x210 (page_before page₄) (flat (m-words cro)) refl refl (omega arith) refl refl

pub images-a : images A ≡ C ∷ M ∷ N ∷ []
images-a = ap (map image_of) came-a ∙ rw (c_is, m_is, n_is) refl

pub images-b : images B ≡ C ∷ N ∷ M ∷ []
images-b = ap (map image_of) came-b ∙ rw (c'-is, n'-is, m'-is) refl

-- one window holds the bytes of the other, a page further on
shifted : (w : List ℕ) (q : ℕ) → In 0x100000 0x1000 q → byte_at bt (page_before w) q ≡ byte_at at w q
unfolding byte_at place page_before
shifted w q i =
    let e : place bt q ≡ 4096 + place at q = omega (arith, i) in rw e (get_or-append-add (zeros 4096) w (place at q) 0)

-- what two pages have in one place
pub same-part
    : (u w : List ℕ) (i n q : ℕ) → take n (drop i u) ≡ take n (drop i w) → i + n ≤ 4096 → In (0x100000 + i) n q → byte_at at u q ≡ byte_at at w q
unfolding byte_at place
same-part u w i n q e l h = sym (go u) ∙ ap (λ l. get_or l (place at q - i) 0) e ∙ go w
  where
    go : (v : List ℕ) → get_or (take n (drop i v)) (place at q - i) 0 ≡ get_or v (place at q) 0
    go v =
        let x : place at q - i < n = omega (arith, h) in
        let y : i + (place at q - i) ≡ place at q = omega (arith, h) in
        get_or-take n (drop i v) (place at q - i) 0 x ∙ rw (get_or-drop i v (place at q - i) 0, y) refl

pub c_area : (q : ℕ) → Area C q → In 0x100000 0x178 q
unfolding opened shown tested
c_area = in_true C 0x100000 0x178 refl

-- what others write, and what `n` changes, is outside the CRS and outside `m`
pub same_pages
    : (take 0x178 (drop 0 (page₀ 0)) ≡ take 0x178 (drop 0 (page₀ cro))) × (take 0x178 (drop 0 (page₁ 0)) ≡ take 0x178 (drop 0 (page₁ cro)))
    × (take 0x210 (drop 0x200 (page₁ cro)) ≡ take 0x210 (drop 0x200 page₄)) × (take 0x10 (drop 0x5a0 (page₁ cro)) ≡ take 0x10 (drop 0x5a0 page₄))
    × (take 0x10 (drop 0x5b0 (page₁ cro)) ≡ take 0x10 (drop 0x5b0 page₄))
unfolding opened shown
same_pages = (refl, refl, refl, refl, refl)

-- the same bytes at the same addresses
carried
    : (u w : List ℕ) (i n q : ℕ) → take n (drop i u) ≡ take n (drop i w) → i + n ≤ 4096 → In (0x100000 + i) n q
    → byte_at at u q ≡ byte_at bt (page_before w) q
carried u w i n q e l h = same-part u w i n q e l h ∙ sym (shifted w q (omega (arith, h), omega (arith, h)))

same-m : (q : ℕ) → Area M q → byte_at at (page₁ cro) q ≡ byte_at bt (page_before page₄) q
unfolding Area LentArea
same-m q (inl h) = carried (page₁ cro) page₄ 0x200 0x210 q same_pages.2 (omega arith) h
same-m q (inr (inl h)) = carried (page₁ cro) page₄ 0x5a0 0x10 q same_pages.3 (omega arith) h
same-m q (inr (inr h)) = carried (page₁ cro) page₄ 0x5b0 0x10 q same_pages.4 (omega arith) h

-- the two sessions end alike (item 10)
pub end_alike : SameStanding (standing A) (standing B)
unfolding SameStanding
end_alike =
    rw (stood-a, stood-b) (
      refl,
      (λ q h. carried (page₀ 0) (page₀ cro) 0 0x178 q same_pages.0 (omega arith) (c_area q (rw c_is at h))),
      (refl, (λ q h. same-m q (rw m_is at h)), tt),
    )
