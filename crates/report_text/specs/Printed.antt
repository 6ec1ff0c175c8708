-- What an answer prints.
use Rattle.std.specs.Prelude.{ℕ, List, [], ◌++◌, codes, decimal}
use Rattle.cache_types.specs.declared.answer.Answer.{Answer}
use Rattle.cache_types.specs.declared.answer.Answer.TheVariants as answers
use Rattle.cache_types.specs.declared.request.Request.{Request}
use Rattle.report_text.specs.Lines.{key_lines, row_lines, line_end}

-- the line of an answer that is one word; every other answer has none
abbrev pub word_line : Answer → List ℕ
word_line answers.Stored = codes "stored\n"
word_line answers.Kept = codes "kept\n"
word_line answers.Marked = codes "marked\n"
word_line answers.Yes = codes "yes\n"
word_line answers.No = codes "no\n"
word_line answer = []

-- what stands on standard output: a blob as it is, without a newline
abbrev pub printed : Request → Answer → List ℕ
printed request (answers.Hit blob) = blob
printed request (answers.Keys keys) = key_lines keys
printed request (answers.Rows list) = row_lines list
printed request (answers.Trimmed n) = codes "trimmed " ++ (decimal n ++ line_end)
printed request answer = word_line answer
