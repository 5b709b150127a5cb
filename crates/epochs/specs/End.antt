-- What a header byte says of the end of its epoch.
use Rattle.std.specs.Prelude.{ℕ, ◌≡◌, ◌≢◌, Bool, true, false, List, Result, MatchResult}
use Rattle.region.specs.declared.Refusal.{Refusal}
use Rattle.region.specs.declared.Refusal.TheVariants.{BadTape}
use Rattle.epochs.specs.Epoch.{flush_header, cut_header, flush_foretold, header_right}
use Rattle.epochs.specs.declared.epoch.End.{End}
use Rattle.epochs.specs.declared.epoch.End.TheVariants.{Flush, Cut}

-- the definitions' Boolean
abbrev pub flushing : End → Bool
flushing Flush = true
flushing Cut = false

-- the byte that foretells it
abbrev pub header_of : End → ℕ
header_of Flush = flush_header
header_of Cut = cut_header

-- the end that this byte foretells, or 10 where it's neither
abbrev pub HeaderTells : ℕ → Result End Refusal → Type 0
HeaderTells byte r = MatchResult r (λ end. byte ≡ header_of end) (λ why. (why ≡ BadTape) × (byte ≢ flush_header) × (byte ≢ cut_header))

-- the end that the header at `start` foretells, or 10 where none of the two is there
abbrev pub ForetellsEnd : (tape : List ℕ) (start : ℕ) → Result End Refusal → Type 0
ForetellsEnd tape start r =
    MatchResult r (λ end. (header_right tape start ≡ true) × (flush_foretold tape start ≡ flushing end))
    (λ why. (why ≡ BadTape) × (header_right tape start ≡ false))
