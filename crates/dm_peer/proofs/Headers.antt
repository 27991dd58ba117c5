-- What is heard has the header of its message.
use Rattle.std.proofs.Common.{◌≡◌, ℕ, Option, None, Some, Result, Ok, Err, refl}
use Rattle.dm_wire.specs.declared.message.Header.{Header}
use Rattle.dm_wire.specs.declared.message.Message.{Message}
use Rattle.dm_dict.specs.Faults.{Fault}
use Rattle.dm_base.specs.declared.kind.Kind.{Kind}
use Rattle.dm_base.specs.declared.kind.Kind.TheVariants as kinds
use Rattle.dm_peer.specs.declared.config.Config.{Config}
use Rattle.dm_peer.specs.Said.{heard_caps, kind_under, refusal_of_caps, said}
use Rattle.dm_peer.specs.Laws.{HeardHasItsHeader}

caps_header : (h : Header) (o : Option ℕ) → (heard_caps h o).header ≡ h
caps_header h None = refl
caps_header h (Some code) = refl

said_header : (c : Config) (m : Message) (r : Result Kind Fault) → (said c m r).header ≡ m.header
said_header c m (Ok (kinds.Cer caps)) = caps_header m.header (refusal_of_caps c caps)
said_header c m (Ok (kinds.Cea code)) = refl
said_header c m (Ok kinds.Dwr) = refl
said_header c m (Ok kinds.Dwa) = refl
said_header c m (Ok (kinds.Dpr cause)) = refl
said_header c m (Ok kinds.Dpa) = refl
said_header c m (Ok kinds.Other) = refl
said_header c m (Err f) = refl

pub heard_header : HeardHasItsHeader
heard_header c m = said_header c m (kind_under c m)
