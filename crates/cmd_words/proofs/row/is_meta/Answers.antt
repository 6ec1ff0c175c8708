use Rattle.std.proofs.Common.{◌==◌, ◌∙◌, ℕ, ap, nat_le, rules, tests}
use Rattle.std.proofs.lemmas.Iterator.Consumers.{count_from_yields_List}
use Rattle.std.proofs.lemmas.Iterator.Splits.{YieldsList-from_slice_split}
use Rattle.cmd_words.proofs.row.is_meta.Goals as goal

pub returns : goal.returns
returns c = ap (λ (pieces : ℕ). nat_le pieces 64)
    (count_from_yields_List c.split.result c.count.result c.count.ensures.ran
    (YieldsList-from_slice_split _ (λ byte. byte == 44) c.args.text.now (c.split.ensures.rest ∙ c.as_bytes.ensures.value) c.split.ensures.done c.split.ensures.closure (λ x r q k. search (rules, tests))))
