use Rattle.std.proofs.Common.{refl, subst}
use Rattle.cache_types.specs.declared.request.Request.{Request}
use Rattle.op_union.specs.Requests.{Operates}
use Rattle.settings_read.specs.Variables.{texts_of}
use Rattle.cache_main.specs.Requests.{request_of}
use Rattle.cache_main.specs.Served.{OperationServed}
use Rattle.cache_main.proofs.Ending.{refused_ends, stopped_ends, operated_ends}
use Rattle.cache_main.proofs.TakenBlobs.{ends_unread, reads_source, blob_for}
use Rattle.cache_main.proofs.operation.run_operation.Goals as goal

pub returns-in-Err-clause-ends : goal.returns-in-Err-clause-ends
returns-in-Err-clause-ends g c = refused_ends c.args.command.now (texts_of c.args.vars.now) _ c.requires.operation c.in-Err.status _ _ _ _ _ _ c.in-Err.ensures.refused refl refl refl

pub returns-in-Err-take_blob-clause-ends : goal.returns-in-Err-take_blob-clause-ends
returns-in-Err-take_blob-clause-ends g c =
    let word = c.args.command.now.word in
    let refusal = c.in-Err-take_blob.refusal in
    let s = g.S.Source in
    stopped_ends c.args.command.now (texts_of c.args.vars.now) _ c.requires.operation c.in-Ok.admitted c.in-Ok.ensures.refused c.status.result _ _ (s.left c.args.source.now) (s.left c.take_blob.new.source) (s.faults c.args.source.now) (s.faults c.take_blob.new.source) _ _
    (ends_unread word refusal c.status.result _ _ _ _ c.requires.operation c.status.ensures c.in-Err-take_blob.ensures.takes) (λ unread. reads_source word refusal _ _ _ _ c.requires.operation c.in-Err-take_blob.ensures.takes) c.in-Err-take_blob.ensures.later refl refl

pub returns-clause-ends : goal.returns-clause-ends
returns-clause-ends g c =
    let command = c.args.command.now in
    let vars = texts_of c.args.vars.now in
    let files = g.F.Files in
    let admitted = c.in-Ok.admitted in
    let good = c.in-Ok.ensures.admitted in
    let request = request_of command admitted.settings admitted.keys.key admitted.keys.meta c.in-Ok-take_blob.blob in
    let served : OperationServed command vars (files.me c.args.files.now) c.print_answer.result (files.history c.args.files.now) (files.history c.run_op-answer.new.files) (files.faults c.args.files.now) (files.faults c.run_op-answer.new.files) (g.S.Source.left c.args.source.now) (g.S.Source.left c.take_blob.new.source) (g.K.Sink.written c.args.out.now) (g.K.Sink.written c.print_answer.new.out) (g.K.Sink.faults c.args.out.now) (g.K.Sink.faults c.print_answer.new.out) =
    record {
      settings = admitted.settings;
      given = good.given;
      layout = good.layout;
      key = admitted.keys.key;
      spells = good.spells;
      meta = admitted.keys.meta;
      meta_is = good.meta_is;
      blob = c.in-Ok-take_blob.blob;
      taken = blob_for command.word c.in-Ok-take_blob.blob _ _ _ _ c.requires.operation c.in-Ok-take_blob.ensures.takes;
      answer = c.run_op-answer.result;
      done = subst (λ (r : Request). Operates (files.me c.args.files.now) r (files.history c.args.files.now) (files.history c.run_op-answer.new.files) (files.faults c.args.files.now) (files.faults c.run_op-answer.new.files) c.run_op-answer.result) c.in-Ok-request_of.ensures c.run_op-answer.ensures.done;
      printed = c.print_answer.ensures request;
    } in
    operated_ends command vars _ c.requires.operation admitted c.in-Ok.ensures.refused c.print_answer.result _ _ _ _ _ _ _ _ _ _ _ _ served c.in-Ok-take_blob.ensures.later c.run_op-answer.ensures.faults
