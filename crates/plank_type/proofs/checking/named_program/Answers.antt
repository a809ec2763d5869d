-- The header and the methods of a well typed text within the limits are lawful.
use Rattle.std.proofs.Common.{◌≡◌, true, List, sym, subst}
use Rattle.plank_prog.specs.declared.headers.Header.{Header}
use Rattle.plank_prog.specs.declared.methods.Method.{Method}
use Rattle.plank_prog.specs.Headers.{is_lawful_header}
use Rattle.plank_prog.specs.Methods.{are_lawful_methods}
use Rattle.plank_type.specs.Headers.{header_of}
use Rattle.plank_type.proofs.HeaderLaw.{header_is_lawful}
use Rattle.plank_type.proofs.MethodsLaw.{methods_are_lawful}
use Rattle.plank_type.proofs.checking.named_program.Goals as goal

pub lawful_program-requires-clause-header : goal.lawful_program-requires-clause-header
lawful_program-requires-clause-header c =
    let limited = c.args.lowered.limited in
    subst (λ (h : Header). is_lawful_header h ≡ true) (sym c.args.lowered.header_is)
    (header_is_lawful limited.typed.now.text.now limited.typed.now.rules limited.within)

pub lawful_program-requires-clause-methods : goal.lawful_program-requires-clause-methods
lawful_program-requires-clause-methods c =
    let typed = c.args.lowered.limited.typed.now in
    subst (λ (h : Header). are_lawful_methods h c.args.lowered.methods ≡ true) (sym c.args.lowered.header_is)
    (subst (λ (ms : List Method). are_lawful_methods (header_of typed.text.now) ms ≡ true) (sym c.args.lowered.methods_are)
    (methods_are_lawful typed.text.now typed.rules c.requires.limits))
