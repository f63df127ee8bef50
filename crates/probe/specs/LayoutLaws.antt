-- What is proved of a run handed over in a buffer.
use Rattle.std.specs.Prelude.{ℕ, ◌<◌, ◌≤◌, ◌≡◌, List, ◌++◌, length, take, drop}
use Rattle.std.proofs.Common.{sym, ◌∙◌, length-take-le, le-leb}
use Rattle.std.proofs.lemmas.Bool.{lt-leb}
use Rattle.layout.specs.Bytes.{copied}
use Rattle.layout.specs.BytesLaws.{copied_same}
use Rattle.probe.specs.Layout.{handed}

pub handed_short : (run out : List ℕ) → length out < length run → handed run out ≡ out
unfolding handed
handed_short run out h = rw (lt-leb (length run) (length out) h)

-- the run at the front of the buffer
pub handed_same : (run out last : List ℕ) → length run ≤ length out → last ≡ run → last ++ drop (length run) out ≡ handed run out
unfolding handed
handed_same run out last h e = rw (le-leb (length run) (length out) h, e)

-- what layout's copy leaves there
pub handed_copy : (run out last : List ℕ) → length run ≤ length out → last ≡ copied run (take (length run) out) →
    last ++ drop (length run) out ≡ handed run out
handed_copy run out last h e =
    handed_same run out last h (e ∙ copied_same run (take (length run) out) (sym (length-take-le (length run) out h)))
