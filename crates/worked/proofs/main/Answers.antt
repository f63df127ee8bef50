-- The worked record can be laid out.
use Rattle.std.proofs.Common.{◌≡◌, ℕ, Result, Ok, Err, List, take, refl, ap, ◌∙◌}
use Rattle.std.specs.Prelude.{⊤, IsOk}
use Rattle.counts.specs.Shape.{size_of}
use Rattle.layout.specs.Bytes.{word2}
use Rattle.layout.specs.Record.{record_of, laid_on}
use Rattle.layout.specs.Sizes.{header, head, record_size, last_producer}
use Rattle.parts.specs.declared.refusal.Refusal.{Refusal}
use Rattle.parts.specs.Part.{said, lay_out_of}
use Rattle.parts.specs.Reading.{first_of, reads, read_of}
use Rattle.parts.specs.RefusalLaws.{number_not}
use Rattle.worked.proofs.main.Goals as goal

-- only a refusal says another number than 0
done : (r : Result ⊤ Refusal) → said r ≡ 0 → IsOk r
done (Ok x) e = refl
done (Err why) e = absurd (number_not why e)

pub unwrap-requires : goal.unwrap-requires
unfolding size_of word2 record_of laid_on header head record_size last_producer lay_out_of first_of reads read_of
unwrap-requires c = done _ (c.lay_out.ensures.result_value ∙ ap (λ (l : List ℕ). lay_out_of (take 6 l) 0 64) c.lay_record.ensures)
