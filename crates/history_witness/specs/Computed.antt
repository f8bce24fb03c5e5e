-- The calls of two sessions, written out, and what each gives: number, value and every byte left.
use Rattle.std.specs.Prelude.{ℕ, ◌≡◌, refl, List, [], ◌∷◌, true, Some}
use Rattle.register.specs.Module.{Module, Register}
use Rattle.linker_spec.specs.declared.rebase.LoadArguments.{LoadArguments}
use Rattle.linker_spec.specs.declared.call.Call.TheVariants.{Initialize, Load, Unload}
use Rattle.linker_spec.specs.Outcome.{Buffers, Outcome}
use Rattle.history.specs.Sessions.{given}
use Rattle.history.specs.Windows.{program}
use Rattle.history_witness.specs.Image.{zeros, cro, join, c-words, m-words, n-words, change, c_rebased, c-linked, m_loaded, m-linked, n_loaded, lent-words, page}
use Rattle.history_witness.specs.Open.{opened}
use Rattle.history_witness.specs.PageBefore.{at, bt, lent_page_before, lies, tried, Tried, stored, given-page_before}

-- the pages: at first; after `initialize`; after the load of `m`; after the load of `n`
abbrev pub page₀ : ℕ → List ℕ
page₀ magic = page c-words (m-words magic) n-words (lent-words 0 0)

abbrev pub page₁ : ℕ → List ℕ
page₁ magic = page c_rebased (m-words magic) n-words (lent-words 0 0)

abbrev pub page₂ : List ℕ
page₂ = page c-linked m_loaded n-words (lent-words 0x100400 0x100400)

abbrev pub page₃ : List ℕ
page₃ = page c-linked m-linked n_loaded (lent-words 0x100584 0x100580)

-- the modules' records
abbrev pub c_module : Module
c_module =
    record {
      base = 0x100000;
      size = 0x178;
      auto = true;
      name = 0x63 ∷ [];
      segments = 0x100168 ∷ [];
      named = record { name = 0x73 ∷ []; address = 0x100170 } ∷ [];
      indexed = [];
    }

abbrev pub m_module : Module
m_module =
    record {
      base = 0x100200;
      size = 0x210;
      auto = true;
      name = 0x6d ∷ [];
      segments = 0x100400 ∷ 0x1005a0 ∷ 0x1005b0 ∷ [];
      named = record { name = 0x66 ∷ []; address = 0x100408 } ∷ [];
      indexed = [];
    }

abbrev pub n_module : Module
n_module =
    record {
      base = 0x100420;
      size = 0x168;
      auto = true;
      name = 0x6e ∷ [];
      segments = 0x100578 ∷ [];
      named = record { name = 0x67 ∷ []; address = 0x10057c } ∷ [];
      indexed = 0 ∷ 0x100584 ∷ [];
    }

-- `g` is noted as missing when `m` comes
abbrev pub register : List Module → List (List ℕ) → Register
register ms missing = record { modules = ms; crs = Some 0x100000; missing = missing }

-- a window, and a zeroed register in so many bytes of records and names
abbrev pub fresh : ℕ → ℕ → List ℕ → Buffers
fresh records names w =
    record { window = w; records = zeros records; names = zeros names; missing = zeros 32896 }

abbrev pub small : ℕ → ℕ → LoadArguments
small base size =
    record { base = base; size = size; data_segment = 0; data_segment_size = 0; bss_segment = 0; bss_segment_size = 0 }

-- what is lent with `m`: 0x10 bytes of data and 0x10 bytes of bss, outside its image
abbrev pub large : LoadArguments
large =
    record { base = 0x100200; size = 0x210; data_segment = 0x1005a0; data_segment_size = 0x10; bss_segment = 0x1005b0; bss_segment_size = 0x10 }

-- the bytes of the first session: the records are full once `n` stands
abbrev pub b₀ : Buffers
b₀ = fresh 192 8 (page₀ 0)

abbrev pub b₁ : ℕ → Buffers
b₁ magic = stored 192 8 (register (c_module ∷ []) []) (page₁ magic)

abbrev pub b₂ : Buffers
b₂ = stored 192 8 (register (c_module ∷ m_module ∷ []) ((0x67 ∷ []) ∷ [])) page₂

abbrev pub b₃ : Buffers
b₃ = stored 192 8 (register (c_module ∷ m_module ∷ n_module ∷ []) ((0x67 ∷ []) ∷ [])) page₃

-- the bytes of the second, but for the page in front: `n` comes before `m`, so that nothing is missing
abbrev pub d₀ : Buffers
d₀ = fresh 512 64 (page₀ cro)

abbrev pub d₁ : Buffers
d₁ = stored 512 64 (register (c_module ∷ []) []) (page₁ cro)

abbrev pub page₄ : List ℕ
page₄ = page (change ((0x088, 0x100420) ∷ []) c_rebased) (m-words cro) (change ((0x08c, 0x100420) ∷ []) n_loaded) (lent-words 0 0)

abbrev pub d₂ : Buffers
d₂ = stored 512 64 (register (c_module ∷ n_module ∷ []) []) page₄

abbrev pub page₅ : List ℕ
page₅ =
    page (change ((0x088, 0x100420) ∷ []) c-linked) (change ((0x088, 0) ∷ []) m-linked) (change ((0x088, 0x100200) ∷ []) n_loaded)
    (lent-words 0x100584 0x100580)

abbrev pub d₃ : Buffers
d₃ = stored 512 64 (register (c_module ∷ n_module ∷ m_module ∷ []) []) page₅

abbrev pub d₄ : Buffers
d₄ = stored 512 64 (register (c_module ∷ m_module ∷ []) []) page₂

-- lent in between: 4,095 bytes, which are no window, and a register of 65 modules, which is none
abbrev pub short : Buffers
short = fresh 32 0 (zeros 4095)

abbrev pub wrong : Buffers
wrong = record { window = zeros 4096; records = 65 ∷ zeros 31; names = []; missing = [] }

abbrev pub done : ℕ → Buffers → Outcome
done value b = record { number = 0; value = value; left = b }

abbrev pub refused : ℕ → Buffers → Outcome
refused number b = record { number = number; value = 0; left = b }

-- the images' words and pages, to be unfolded by one name
unfoldable pub shown : Unit {0}
unfolding join c-words m-words n-words change c_rebased c-linked m_loaded m-linked n_loaded lent-words page
shown = tt

pub o₁ : given (Load large 1 1) at b₀ ≡ refused 1 b₀
unfolding opened shown
o₁ = refl

pub o₂ : given (Unload 0x100420) at short ≡ refused 3 short
unfolding opened shown
o₂ = refl

pub o₃ : given (Initialize 0x100000 0x178) at wrong ≡ refused 4 wrong
unfolding opened shown
o₃ = refl

pub o₄ : given (Initialize 0x100000 0x178) at b₀ ≡ done 0 (b₁ 0)
unfolding opened shown
o₄ = refl

pub o₅ : given (Load large 1 1) at (b₁ cro) ≡ done 0x210 b₂
unfolding opened shown
o₅ = refl

pub o₆ : given (Load (small 0x100420 0x168) 1 0) at b₂ ≡ done 0 b₃
unfolding opened shown
o₆ = refl

pub o₇ : given (Load (small 0x100560 0x138) 1 0) at b₃ ≡ refused 5 b₃
unfolding opened shown
o₇ = refl

pub o₈ : given (Unload 0x100420) at b₃ ≡ done 1 b₂
unfolding opened shown
o₈ = refl

pub o₉ : given (Unload 0x100420) at b₂ ≡ done 0 b₂
unfolding opened shown
o₉ = refl

-- the second session's calls: in the page alone, and with the page in front
r₁ : Tried (Initialize 0x100000 0x178) d₀ 512 64 0 (register (c_module ∷ []) []) (page₁ cro)
unfolding opened shown tried lies program
r₁ = record { whole = refl; records_are = refl; names_are = refl; valid = refl; leads = refl }

r₂ : Tried (Load (small 0x100420 0x168) 1 0) d₁ 512 64 0 (register (c_module ∷ n_module ∷ []) []) page₄
unfolding opened shown tried lies program
r₂ = record { whole = refl; records_are = refl; names_are = refl; valid = refl; leads = refl }

r₃ : Tried (Load large 2 1) d₂ 512 64 0x210 (register (c_module ∷ n_module ∷ m_module ∷ []) []) page₅
unfolding opened shown tried lies program
r₃ = record { whole = refl; records_are = refl; names_are = refl; valid = refl; leads = refl }

r₄ : Tried (Unload 0x100420) d₃ 512 64 1 (register (c_module ∷ m_module ∷ []) []) page₂
unfolding opened shown tried lies program
r₄ = record { whole = refl; records_are = refl; names_are = refl; valid = refl; leads = refl }

pub q₁ : given (Initialize 0x100000 0x178) bt (lent_page_before d₀) ≡ done 0 (lent_page_before d₁)
q₁ = given-page_before (Initialize 0x100000 0x178) d₀ r₁

pub q₂ : given (Load (small 0x100420 0x168) 1 0) bt (lent_page_before d₁) ≡ done 0 (lent_page_before d₂)
q₂ = given-page_before (Load (small 0x100420 0x168) 1 0) d₁ r₂

pub q₃ : given (Load large 2 1) bt (lent_page_before d₂) ≡ done 0x210 (lent_page_before d₃)
q₃ = given-page_before (Load large 2 1) d₂ r₃

pub q₄ : given (Unload 0x100420) bt (lent_page_before d₃) ≡ done 1 (lent_page_before d₄)
q₄ = given-page_before (Unload 0x100420) d₃ r₄
