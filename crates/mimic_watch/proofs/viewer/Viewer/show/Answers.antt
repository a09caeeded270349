use Rattle.std.proofs.Common.{◌≡◌, true, [], append-nil, refl, rules}
use Rattle.mimic_printer.proofs.Adding.{adds_last, adds_nothing}
use Rattle.mimic_watch.specs.Viewers.{DrawsSeen}
use Rattle.mimic_watch.proofs.Watches.{moment_put, stay}
use Rattle.mimic_watch.proofs.viewer.Viewer.show.Goals as goal

pub returns-in_default-clause-added : goal.returns-in_default-clause-added
returns-in_default-clause-added g c = (
  [],
  adds_nothing _,
  λ screen start now before h. rw (append-nil before) (stay h _ c.in_ok-drawn.ensures.seen c.in_ok-drawn.ensures.screen),
)

pub returns-clause-added : goal.returns-clause-added
returns-clause-added g c =
    let only : c.if-self.erases ≡ true → c.drawn.new.self.screen.live ≡ true = search rules in
    let draws : DrawsSeen c.drawn.new.self c.in-Some.drawn.items = rw c.in-Some.is at c.in_ok-drawn.ensures.drawn in
    let text = rw (c.deref-3.ensures.value, c.in_ok-set_moment.ensures, c.deref.ensures.value, c.deref-2.ensures.value) at c.add.ensures in (
      _,
      adds_last _ text c.add_flush.ensures,
      λ screen start now before h.
          let s = stay h _ c.in_ok-drawn.ensures.seen c.in_ok-drawn.ensures.screen in
          moment_put s c.if-self.erases c.in-Some.drawn.items only (draws start now s.bytes _ s.waiting s.gone s.seen) _ (search rules) refl,
    )
