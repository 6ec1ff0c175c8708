use Rattle.std.proofs.Common.{◌≡◌, ap}
use Rattle.host_files.proofs.Firsts.{kept}
use Rattle.host_files.proofs.host_files.HostFiles.made.Goals as goal

pub returns-in-Err-Failed-clause-first : goal.returns-in-Err-Failed-clause-first
returns-in-Err-Failed-clause-first g c = λ failed fresh.
    let same_paths : c.tried.new.self.paths ≡ c.args.self.now.paths = ap (λ h. h.paths) c.tried.ensures.rest in
    kept _ _ same_paths _ _ c.in-Err-Failed.ensures.went.0 _ _ _ c.fail.ensures.path c.fail.ensures.reason (λ none. let e = c.in-Err-Failed.ensures.outside none in cc (e, c.in-Err-Failed.field-0-is)) fresh
