use Rattle.std.proofs.Common.{◌≡◌, Bool, refl, ap, ◌∙◌}
use Rattle.cache_types.specs.declared.answer.Answer.{Answer}
use Rattle.file_log.specs.declared.reply.Reply.{Reply}
use Rattle.file_log.specs.declared.reply.Reply.TheVariants.{Done}
use Rattle.folder_store.specs.declared.put_phase.Besides.{Besides}
use Rattle.folder_store.specs.declared.put_phase.PutPhase.{PutPhase}
use Rattle.folder_store.specs.Phases.{fault}
use Rattle.folder_store.specs.PutPhases.{closing, unless_done}
use Rattle.folder_store.proofs.put_replies.unless_done.Goals as goal

ends : (reply : Reply) (entry : Bool) (besides : Besides) (next : PutPhase) → (reply ≡ Done → ⊥) → closing (fault reply) entry besides ≡ unless_done reply entry besides next
ends Done entry besides next other = absurd (other refl)
ends reply entry besides next other = refl

pub returns-in_default : goal.returns-in_default
returns-in_default c =
    c.closing.ensures
    ∙ ap (λ (a : Answer). closing a c.args.entry c.args.besides) c.fault_of.ensures
    ∙ ends c.args.reply.now c.args.entry c.args.besides c.args.next c.in_default.not-Done
