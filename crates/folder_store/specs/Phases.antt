-- The answer after a call that failed or was refused memory.
use Rattle.cache_types.specs.declared.answer.Answer.{Answer}
use Rattle.cache_types.specs.declared.answer.Answer.TheVariants.{FilesFault, NoMemory}
use Rattle.file_log.specs.declared.reply.Reply.{Reply}
use Rattle.file_log.specs.declared.reply.Reply.TheVariants as replies

abbrev pub fault : Reply → Answer
fault replies.NoMemory = NoMemory
fault reply = FilesFault
