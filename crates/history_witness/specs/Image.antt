-- Three small images written out as words: a CRS `c`, a module `m` that imports from it and from `n`, and `n`.
use Rattle.std.specs.Prelude.{ℕ, ◌/◌, List, [], ◌∷◌, ◌++◌, set, replicate}
use Rattle.register.specs.Words.{flat}

abbrev pub zeros : ℕ → List ℕ
zeros n = replicate n 0

abbrev pub cro : ℕ
cro = 0x304f5243

abbrev pair : ℕ → ℕ → List ℕ
pair a b = a ∷ b ∷ []

abbrev triple : (a b c : ℕ) → List ℕ
triple a b c = a ∷ b ∷ c ∷ []

unfoldable pub join : List (List ℕ) → List ℕ
join [] = []
join (l ∷ ls) = l ++ join ls

-- a header: its magic word and, from 0x0c0 on, the name and the tables, each an offset and a count
abbrev header : ℕ → List (List ℕ) → List ℕ
header magic tables = zeros 32 ++ (magic ∷ (zeros 15 ++ join tables))

-- the CRS, 0x178 bytes: a segment of code at 0x100168, an export `s`, an import `f`, its external entry, the strings, the code
unfoldable pub c-words : List ℕ
c-words =
    header cro (pair 0x160 2 ∷ pair 0x138 1 ∷ pair 0x144 1 ∷ zeros 8 ∷ pair 0x154 1 ∷ pair 0x14c 1 ∷ zeros 12 ∷ [])
    ++ join (
    triple 0x100168 0x10 0
    ∷ pair 0x162 0x80
    ∷ pair 0x164 0x154
    ∷ triple 0 0x102 4
    ∷ pair 0x730063 0x66
    ∷ zeros 4
    ∷ []
    )

-- `m`, 0x210 bytes, but for its magic word: segments of code, Data and Bss; an export `f`; imports `s` and `g`; a module entry `n`,
-- with an import by index, 1, and one by a tag, 0x80; external entries: of `s`; two of `g`, of kinds 3 and 10; two of the import by
-- index, into Data and past its end; one of the import by a tag, into Bss; an internal entry into Data; strings; Data; code
unfoldable pub m-words : ℕ → List ℕ
m-words magic =
    header magic (
    pair 0x1ec 2
    ∷ pair 0x138 3
    ∷ pair 0x15c 1
    ∷ zeros 6
    ∷ pair 0x174 1
    ∷ pair 0x198 6
    ∷ pair 0x164 2
    ∷ pair 0x188 1
    ∷ pair 0x190 1
    ∷ zeros 4
    ∷ pair 0x1e0 1
    ∷ zeros 2
    ∷ []
    )
    ++ join (
    triple 0x200 0x10 0
    ∷ triple 0x1f8 8 2
    ∷ triple 0 8 3
    ∷ pair 0x1ee 0x80
    ∷ pair 0x1f0 0x198
    ∷ pair 0x1f2 0x1a4
    ∷ triple 0x1f4 0x188 1
    ∷ pair 0x190 1
    ∷ pair 1 0x1bc
    ∷ pair 0x80 0x1d4
    ∷ triple 0 0x102 4
    ∷ triple 0x40 3 0
    ∷ triple 0x80 0x10a 8
    ∷ triple 0x01 2 0
    ∷ triple 0x81 0x102 0
    ∷ triple 0x42 0x102 0
    ∷ triple 0x41 2 4
    ∷ triple 0x66006d 0x670073 0x6e
    ∷ zeros 2
    ∷ zeros 4
    ∷ []
    )

-- `n`, 0x168 bytes: code; an export `g` by name and two by index, the first with the tag of no segment
unfoldable pub n-words : List ℕ
n-words =
    header cro (pair 0x154 2 ∷ pair 0x138 1 ∷ pair 0x144 1 ∷ pair 0x14c 2 ∷ zeros 22 ∷ [])
    ++ join (triple 0x158 0x10 0 ∷ pair 0x156 0x40 ∷ pair 0x109 0xc0 ∷ (0x67006e ∷ []) ∷ zeros 4 ∷ [])

-- with words put at such offsets
unfoldable pub change : List (ℕ × ℕ) → List ℕ → List ℕ
change [] words = words
change ((o, v) ∷ l) words = change l (set words (o / 4) v)

-- after `initialize`, and after the load of `m`
unfoldable pub c_rebased : List ℕ
c_rebased =
    change (
    (0x0c0, 0x100160)
    ∷ (0x0c8, 0x100138)
    ∷ (0x0d0, 0x100144)
    ∷ (0x0f8, 0x100154)
    ∷ (0x100, 0x10014c)
    ∷ (0x144, 0x100162)
    ∷ (0x14c, 0x100164)
    ∷ (0x150, 0x100154)
    ∷ (0x168, 0x10016c)
    ∷ []
    ) c-words

unfoldable pub c-linked : List ℕ
c-linked = change ((0x088, 0x100200) ∷ (0x158, 0x10102) ∷ (0x168, 0x10040c) ∷ []) c_rebased

-- `m` after its load: list words and fixed size, header, segments, pointers, then a mark and the relocated words
unfoldable pub m_loaded : List ℕ
m_loaded =
    change (
    (0x08c, 0x100200)
    ∷ (0x098, 0x210)
    ∷ (0x0c0, 0x1003ec)
    ∷ (0x0c8, 0x100338)
    ∷ (0x0d0, 0x10035c)
    ∷ (0x0f0, 0x100374)
    ∷ (0x0f8, 0x100398)
    ∷ (0x100, 0x100364)
    ∷ (0x108, 0x100388)
    ∷ (0x110, 0x100390)
    ∷ (0x120, 0x100410)
    ∷ (0x128, 0x100410)
    ∷ (0x12c, 0)
    ∷ (0x130, 0x100410)
    ∷ (0x138, 0x100400)
    ∷ (0x144, 0x1005a0)
    ∷ (0x150, 0x1005b0)
    ∷ (0x15c, 0x1003ee)
    ∷ (0x164, 0x1003f0)
    ∷ (0x168, 0x100398)
    ∷ (0x16c, 0x1003f2)
    ∷ (0x170, 0x1003a4)
    ∷ (0x174, 0x1003f4)
    ∷ (0x178, 0x100388)
    ∷ (0x180, 0x100390)
    ∷ (0x18c, 0x1003bc)
    ∷ (0x194, 0x1003d4)
    ∷ (0x19c, 0x10102)
    ∷ (0x1fc, 0x100404)
    ∷ (0x200, 0x100174)
    ∷ (0x204, 0xfffffffc)
    ∷ (0x208, 0x100408)
    ∷ []
    ) (m-words cro)

-- and after the load of `n`: list words, marks, and both words of the batch of `g`
unfoldable pub m-linked : List ℕ
m-linked =
    change (
    (0x088, 0x100420)
    ∷ (0x08c, 0x100420)
    ∷ (0x1a8, 0x10003)
    ∷ (0x1c0, 0x10002)
    ∷ (0x1d8, 0x10102)
    ∷ (0x204, 0x178)
    ∷ (0x208, 0x100584)
    ∷ []
    ) m_loaded

unfoldable pub n_loaded : List ℕ
n_loaded =
    change (
    (0x08c, 0x100200)
    ∷ (0x0c0, 0x100574)
    ∷ (0x0c8, 0x100558)
    ∷ (0x0d0, 0x100564)
    ∷ (0x0d8, 0x10056c)
    ∷ (0x138, 0x100578)
    ∷ (0x144, 0x100576)
    ∷ []
    ) n-words

-- what is lent to `m`: 0x10 bytes of data, 0x10 bytes of bss, with the word of each import
unfoldable pub lent-words : ℕ → ℕ → List ℕ
lent-words indexed anonymous = indexed ∷ 0 ∷ 0 ∷ 0 ∷ 0 ∷ anonymous ∷ 0 ∷ 0 ∷ []

-- one page: the three images, what is lent to `m`, and a magic word with only zeros page_before it
unfoldable pub page : List ℕ → List ℕ → List ℕ → List ℕ → List ℕ
page c m n lent =
    flat (join (c ∷ zeros 0x22 ∷ m ∷ zeros 4 ∷ n ∷ zeros 6 ∷ lent ∷ zeros 8 ∷ (cro ∷ []) ∷ zeros 0x287 ∷ []))
