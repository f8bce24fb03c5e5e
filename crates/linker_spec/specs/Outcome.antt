-- Outcomes of a call for all lent bytes, refusals in the order 3, 4, 1, 2, 5.
use Rattle.std.specs.Prelude.{if◌then◌else◌, ℕ, List, Bool, not, length, eqb}
use Rattle.window.specs.Memory.{good_window}
use Rattle.window.specs.Access.{Prog, run}
use Rattle.register.specs.Module.{Register}
use Rattle.register.specs.Decode.{register_of, is_register}
use Rattle.register.specs.Buffers.{encode_records, encode_names, encode_missing}
use Rattle.linker_spec.specs.declared.rebase.LoadArguments.{LoadArguments}
use Rattle.linker_spec.specs.Calls.{Answer, NotLoaded, Done, number, value, initialize, load, unload, Refused}
use Rattle.linker_spec.specs.declared.refusal.Refusal.{Refusal}
use Rattle.linker_spec.specs.declared.refusal.Refusal.TheVariants.{BadWindow, NoRegister}

-- what is lent: the window's bytes, the register's records and names, the missing list
pub record Buffers : Type 0 where
  pub window : List ℕ
  pub records : List ℕ
  pub names : List ℕ
  pub missing : List ℕ

pub record Outcome : Type 0 where
  pub number : ℕ
  pub value : ℕ
  pub left : Buffers

-- both from their parts, as the contracts of the exported calls have them
abbrev pub buffers : List ℕ → List ℕ → List ℕ → List ℕ → Buffers
buffers window records names missing = record { window = window; records = records; names = names; missing = missing }

abbrev pub outcome : ℕ → ℕ → Buffers → Outcome
outcome number value b = record { number = number; value = value; left = b }

-- what a load is lent beside the bytes
abbrev pub load_arguments : (base size dataSegment dataSegmentSize bssSegment bssSegmentSize : ℕ) → LoadArguments
load_arguments base size dataSegment dataSegmentSize bssSegment bssSegmentSize =
    record { base = base; size = size; data_segment = dataSegment; data_segment_size = dataSegmentSize; bss_segment = bssSegment; bss_segment_size = bssSegmentSize }

abbrev pub refused : Refusal → Buffers → Outcome
refused refusal b = record { number = number (Refused refusal); value = value (Refused refusal); left = b }

-- "The register, missing list included, is unchanged by 1 to 5."
unfoldable pub register_after : Buffers → List ℕ → Answer → Buffers
register_after b w (Refused refusal) = record { window = w; records = b.records; names = b.names; missing = b.missing }
register_after b w NotLoaded = record { window = w; records = b.records; names = b.names; missing = b.missing }
register_after b w (Done v r) =
    record {
      window = w;
      records = encode_records (length b.records) r;
      names = encode_names (length b.names) r;
      missing = encode_missing r;
    }

unfoldable pub outcome_of : Buffers → Answer × List ℕ → Outcome
outcome_of b (a, w) = record { number = number a; value = value a; left = register_after b w a }

-- the chain of tests: the window's rule, then the register's, then the call's own
abbrev pub refusal_order : Bool → Bool → Buffers → Outcome → Outcome
refusal_order good_window is_register b answered = if good_window then (if is_register then answered else refused NoRegister b) else refused BadWindow b

unfoldable pub call_outcome : (ℕ → ℕ → Register → Prog Answer) → ℕ → Buffers → Outcome
call_outcome call at b =
    refusal_order (good_window at b.window) (is_register b.records b.names b.missing) b
    (outcome_of b
    (run at (call (length b.records) (length b.names) (register_of b.records b.names b.missing)) b.window))

unfoldable pub initialize_outcome : (base size at : ℕ) → Buffers → Outcome
initialize_outcome base size at b = call_outcome (initialize base size) at b

-- "An auto-link parameter other than 0 counts as 1."
unfoldable pub load_outcome : LoadArguments → (auto level at : ℕ) → Buffers → Outcome
load_outcome l auto level at b = call_outcome (load l (not (eqb auto 0)) level) at b

unfoldable pub unload_outcome : ℕ → ℕ → Buffers → Outcome
unload_outcome base at b = call_outcome (λ records names. unload base) at b
