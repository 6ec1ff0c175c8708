use Rattle.std.proofs.Common.{◌≡◌, ℕ, List, [], Option, Some, map, string_bytes, sym, subst, ◌∙◌, ap}
use Rattle.std.specs.Prelude.{codes}
use Rattle.cache_types.specs.declared.name.Name.{Name}
use Rattle.cache_types.specs.declared.seat.Who.{Who}
use Rattle.memory_files.specs.declared.sink.MemSink.{MemSink}
use Rattle.memory_files.specs.Lone.{IsLone}
use Rattle.cache_main.specs.Words.{asked}
use Rattle.cache_main.proofs.GoodWords.{RefusedWell}
use Rattle.cache_tests.specs.Found.{words_of_abc, files_of_abc}
use Rattle.cache_tests.proofs.Abc.{get_asked, abc_found}
use Rattle.cache_tests.proofs.premises.abc_is_found.Goals as goal

pub returns : goal.returns
returns c =
    let run = c.run-status.ensures in
    let old = c.in_ok-files.files in
    let new = c.run-status.new.files in
    let printed = c.run-status.new.out in
    let words : map string_bytes c.deref.result.now ≡ words_of_abc (codes "get") = ap (map string_bytes) c.deref.ensures.value ∙ c.in_ok-words.ensures in
    let asks = asked (map string_bytes c.deref.result.now) in
    let is = ap asked words ∙ get_asked in
    let start : Some old.world.past ≡ Some (record { start = files_of_abc; log = [] }) = c.in_ok-files.ensures.history ∙ ap (λ (files : List (Name × List ℕ)). Some (record { start = files; log = [] })) c.in_ok-disk.ensures in
    let out = c.new-out.ensures in
    let same = λ (e : printed ≡ c.new-out.result). ap (λ (s : MemSink). Some s.bytes.items) e ∙ out.written in
    let lone = subst (λ (who : Who). IsLone who (Some new.world.past)) run.me c.lone.ensures in
    let refused : RefusedWell asks [] c.run-status.result = record { usage = run.usage; off = run.off; no_root = run.no_root; too_many = run.too_many; not_built = run.not_built; bad_key = run.bad_key } in
    abc_found old.me c.run-status.result (Some new.world.past) (Some printed.bytes.items) printed.faults (Some old.world.past) start _ _ (Some c.new-out.result.bytes.items) out.written c.new-out.result.faults out.faults asks is refused run.read_fault run.too_large same run.served lone
