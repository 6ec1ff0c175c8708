use Rattle.std.proofs.Common.{map, string_bytes, ap}
use Rattle.settings_read.specs.Variables.{texts_of}
use Rattle.cache_main.specs.Words.{asked}
use Rattle.cache_main.proofs.GoodWords.{RefusedWell, asks_no_source, get_served}
use Rattle.cache_main.proofs.Pairs.{put_keys, get_keys, served_well, finds_again, not_busy}
use Rattle.cache_main.proofs.Puts.{may_end, put_ends}
use Rattle.cache_main.proofs.round_trip.put_then_get.Goals as goal

pub returns-clause-stored : goal.returns-clause-stored
returns-clause-stored g c = λ pair.
    let puts = asked (map string_bytes c.args.put.now) in
    let gets = asked (map string_bytes c.args.get.now) in
    let vars = texts_of c.args.vars.now in
    let put = c.run-put.ensures in
    let get = c.run-get.ensures in
    let same = get.source (asks_no_source _ vars pair.looks pair.gets pair.is_get) in
    let refused : RefusedWell puts vars c.run-put.result = record { usage = put.usage; off = put.off; no_root = put.no_root; too_many = put.too_many; not_built = put.not_built; bad_key = put.bad_key } in
    let read : RefusedWell gets vars c.run-get.result = record { usage = get.usage; off = get.off; no_root = get.no_root; too_many = get.too_many; not_built = get.not_built; bad_key = get.bad_key } in
    let got = get_served gets vars pair.looks pair.gets pair.is_get c.run-get.result _ _ pair.get_lies (get_keys _ gets vars pair) read get.read_fault get.too_large get.served in
    let busy = not_busy puts gets vars pair _ _ c.run-put.result c.run-get.result _ _ _ _ _ _ _ _ _ _ _ _ _ _ _ put.me put.served (λ stays. ap g.F.Files.history stays) got in
    let may = may_end puts vars pair.stores pair.puts pair.is_put pair.put_lies (put_keys _ _ vars pair) _ c.run-put.result _ _ _ _ _ _ _ _ _ _ refused put.served in
    put_ends puts vars pair.stores pair.puts pair.is_put pair.put_lies (put_keys _ _ vars pair) _ _ _ _ _ _ _ _ _ _ _ _ get.counts.0 (ap g.S.Source.left same) get.counts.1 get.counts.2 c.run-put.result may busy put.read_fault put.too_large put.files_fault put.write_fault

pub returns-clause-found : goal.returns-clause-found
returns-clause-found g c = λ pair lone lone' well.
    let gets = asked (map string_bytes c.args.get.now) in
    let vars = texts_of c.args.vars.now in
    let put = c.run-put.ensures in
    let get = c.run-get.ensures in
    let same = get.source (asks_no_source gets vars pair.looks pair.gets pair.is_get) in
    let refused : RefusedWell gets vars c.run-get.result = record { usage = get.usage; off = get.off; no_root = get.no_root; too_many = get.too_many; not_built = get.not_built; bad_key = get.bad_key } in
    finds_again _ gets vars pair _ _ _ _ _ _ _ _ _ _ _ _ _ _ _ _ _ _ _ well put.me (ap g.S.Source.left same) (served_well c.run-put.result well put.served)
    (get_served gets vars pair.looks pair.gets pair.is_get c.run-get.result _ _ pair.get_lies (get_keys _ gets vars pair) refused get.read_fault get.too_large get.served) lone lone' put.counts.0 put.counts.2
