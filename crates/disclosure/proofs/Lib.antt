mod DenialLaws
