use Rattle.std.proofs.Common.{◌<◌, ◌∷◌, [], ◌++◌, length, ap, subst, ◌∙◌, sym}
use Rattle.frame_ring.specs.Queue.{Queue}
use Rattle.bag_regulator.specs.Regulator.{Regulator, Outcome}
use Rattle.bag_regulator.proofs.RoundRobinLoop.{list-read, list-written, room-left, queued-room}
use Rattle.bag_regulator.proofs.regulator.BagRegulator.queue.Goals as goal

pub returns-clause-state : goal.returns-clause-state
returns-clause-state c =
    let i = c.self.inside in
    let g : Regulator = record { lists = i.lists.items; pointer = i.pointer; last = i.last; sn = i.sn; bag = i.bag_ns } in
    let old = c.index_mut-list.result.now in
    let frame = c.args.frame.now in
    let within = subst (λ (s : Regulator). c.args.sub < length s.lists) (sym c.self.view_is) c.requires in
    let read = list-read i.lists.items c.args.sub c.from.result old c.from.ensures within c.index_mut-list.ensures.value in
    let written = list-written i.lists.items c.args.sub c.from.result old c.from.ensures within c.index_mut-list.ensures.value c.push_back.new.self _
    (c.push_back.ensures.frames ∙ ap (λ (l : Queue). l.frames ++ frame ∷ []) (sym read)) c.push_back.ensures.room in
    let room = subst (λ (l : Queue). length l.frames < l.room) (sym read) (room-left (length old.frames) old.room c.if-is_full.ensures.within c.if-is_full.ensures.full.1) in
    rw (sym c.self.view_is)
    ((λ j. record { lists = written j; pointer = i.pointer; last = i.last; sn = i.sn; bag = i.bag_ns })
    ∙ ap (λ (o : Outcome). o.state) (sym (queued-room g c.args.sub frame c.args.release_at room)))
